-- Laws of the code of functions.
--   SizesAreSums        the size of a part is the sum of the sizes of its instructions
--   nodes ..            how many expressions, regions, sections and labels a part has
--   SizesAreBounded     at most 32 bytes for each of them
use Rattle.std.specs.Prelude.{◌≡◌, ℕ, suc, ◌+◌, ◌*◌, ◌≤◌, length, Option, Some, None}
use Rattle.cc_core.specs.Term as term
use Rattle.cc_core.specs.Term.{Term, Terms}
use Rattle.cc_region.specs.declared.tree.RegionFunction.{RegionFunction}
use Rattle.cc_region.specs.Bare.{region_of}
use Rattle.cc_region.specs.Region as region
use Rattle.cc_region.specs.Region.{Region, Regions, Sections}
use Rattle.cc_code.specs.declared.tokens.Tokens.{Tokens}
use Rattle.cc_code.specs.Functions.{function_instructions, function_size}
use Rattle.cc_code.specs.Instructions.{bytes}

-- The size of a function's code is the number of its bytes, whatever its tokens and however many of its variables are parameters.
abbrev pub SizesAreSums : Type 0
SizesAreSums = (tokens : Tokens) (parameters : ℕ) (f : RegionFunction) → bytes (function_instructions tokens parameters f) ≡ function_size f

abbrev mutual
  pub term_nodes : Term → ℕ
  term_nodes (term.Field of field object) = suc (term_nodes object)
  term_nodes (term.Element of array index) = suc (term_nodes array + term_nodes index)
  term_nodes (term.And of first second) = suc (term_nodes first + term_nodes second)
  term_nodes (term.Or of first second) = suc (term_nodes first + term_nodes second)
  term_nodes (term.Assign of place value) = suc (term_nodes place + term_nodes value)
  term_nodes (term.Then of first second) = suc (term_nodes first + term_nodes second)
  term_nodes (term.Convert of operand) = suc (term_nodes operand)
  term_nodes (term.PlaceOf of operand) = suc (term_nodes operand)
  term_nodes (term.HandleOf of operand) = suc (term_nodes operand)
  term_nodes (term.Unary of operator operand) = suc (term_nodes operand)
  term_nodes (term.Binary of operator left right) = suc (term_nodes left + term_nodes right)
  term_nodes (term.Choose of condition first second) = suc (term_nodes condition + term_nodes first + term_nodes second)
  term_nodes (term.Update of operator common result place operand) = suc (term_nodes place + term_nodes operand)
  term_nodes (term.Call of method dispatch arguments) = suc (terms_nodes arguments)
  term_nodes (term.New of made constructor arguments) = suc (terms_nodes arguments)
  term_nodes (term.NewArray of element count) = suc (term_nodes count)
  term_nodes (term.ArrayOf of element elements) = suc (terms_nodes elements)
  term_nodes (term.Cast of kind operand) = suc (term_nodes operand)
  term_nodes (term.Library of member arguments) = suc (terms_nodes arguments)
  term_nodes (term.Let of x first second) = suc (term_nodes first + term_nodes second)
  term_nodes _ = 1

  pub terms_nodes : Terms → ℕ
  terms_nodes term.no_terms = 0
  terms_nodes (term.next_term first rest) = term_nodes first + terms_nodes rest

abbrev pub nodes_if : Option Term → ℕ
nodes_if None = 0
nodes_if (Some e) = term_nodes e

abbrev mutual
  pub region_nodes : Region → ℕ
  region_nodes (region.Sequence regions) = suc (regions_nodes regions)
  region_nodes (region.Do e) = suc (term_nodes e)
  region_nodes (region.Throw e) = suc (term_nodes e)
  region_nodes (region.Declare x of e) = suc (nodes_if e)
  region_nodes (region.If condition first second) = suc (term_nodes condition + region_nodes first + region_nodes second)
  region_nodes (region.Block body) = suc (region_nodes body)
  region_nodes (region.Switch x e sections) = suc (term_nodes e + sections_nodes sections)
  region_nodes (region.Loop kind condition after body) = suc (term_nodes condition + nodes_if after + region_nodes body)
  region_nodes (region.Guard body cleanup) = suc (region_nodes body + region_nodes cleanup)
  region_nodes (region.OnThrow body cleanup) = suc (region_nodes body + region_nodes cleanup)
  region_nodes (region.Finally body last) = suc (region_nodes body + region_nodes last)
  region_nodes (region.Catch body clauses) = suc (region_nodes body + clauses_nodes clauses)
  region_nodes region.Rethrow = 1
  region_nodes (region.Break number) = 1
  region_nodes (region.Continue number) = 1
  region_nodes (region.Return e) = suc (nodes_if e)

  pub regions_nodes : Regions → ℕ
  regions_nodes region.no_regions = 0
  regions_nodes (region.next_region first rest) = region_nodes first + regions_nodes rest

  pub sections_nodes : Sections → ℕ
  sections_nodes region.no_sections = 0
  sections_nodes (region.next_section labels body rest) = length labels + regions_nodes body + sections_nodes rest

  pub clauses_nodes : region.Clauses → ℕ
  clauses_nodes region.no_clauses = 0
  clauses_nodes (region.next_clause caught local body rest) = suc (region_nodes body + clauses_nodes rest)

-- the function itself is one
abbrev pub function_nodes : RegionFunction → ℕ
function_nodes f = suc (region_nodes (region_of f.body))

abbrev pub SizesAreBounded : Type 0
SizesAreBounded = (f : RegionFunction) → function_size f ≤ 32 * function_nodes f
