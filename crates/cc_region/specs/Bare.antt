-- Region trees without the places where their parts stand in memory.
use Rattle.std.specs.Prelude.{option_map}
use Rattle.cc_core.specs.Types.{bare}
use Rattle.cc_core.specs.Bare.{term_of}
use Rattle.cc_region.specs.declared.tree.RegionExit.{RegionExit}
use Rattle.cc_region.specs.declared.tree.RegionExit.TheVariants as exit
use Rattle.cc_region.specs.declared.tree.RegionStatement as s
use Rattle.cc_region.specs.Region as region

abbrev pub exit_of : RegionExit → region.Region
exit_of (exit.Break number) = region.Break number
exit_of (exit.Continue number) = region.Continue number
exit_of (exit.Return e) = region.Return (option_map term_of e)

abbrev mutual
  pub region_of : s.RegionStatement → region.Region
  region_of (s.Sequence' shape row) = region.Sequence (row_regions row)
  region_of (s.Do e) = region.Do (term_of e)
  region_of (s.Declare local type e) = region.Declare local (bare type) (option_map term_of e)
  region_of (s.If' condition p first q second) = region.If (term_of condition) (region_of first) (region_of second)
  region_of (s.Block' p body) = region.Block (region_of body)
  region_of (s.Switch' local e shape row) = region.Switch local (term_of e) (row_sections row)
  region_of (s.Loop' kind condition after p body) = region.Loop kind (term_of condition) (option_map term_of after) (region_of body)
  region_of (s.Guard' p body q cleanup) = region.Guard (region_of body) (region_of cleanup)
  region_of (s.OnThrow' p body q cleanup) = region.OnThrow (region_of body) (region_of cleanup)
  region_of (s.Catch' p body shape row) = region.Catch (region_of body) (row_clauses row)
  region_of (s.Finally' p body q last) = region.Finally (region_of body) (region_of last)
  region_of (s.Throw e) = region.Throw (term_of e)
  region_of s.Rethrow = region.Rethrow
  region_of (s.Exit x) = exit_of x

  pub row_regions : {m : _} → s.Row_of-RegionStatement m → region.Regions
  row_regions s.end_of-RegionStatement = region.no_regions
  row_regions (s.more_of-RegionStatement a rest) = region.next_region (region_of a) (row_regions rest)

  pub row_sections : {m : _} → s.Row_of-RegionSection m → region.Sections
  row_sections s.end_of-RegionSection = region.no_sections
  row_sections (s.more_of-RegionSection labels shape row rest) = region.next_section labels (row_regions row) (row_sections rest)

  pub row_clauses : {m : _} → s.Row_of-CatchClause m → region.Clauses
  row_clauses s.end_of-CatchClause = region.no_clauses
  row_clauses (s.more_of-CatchClause of local body rest) = region.next_clause of local (region_of body) (row_clauses rest)
