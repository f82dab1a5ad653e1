-- Regions, without the places where their parts stand in memory.
use Rattle.std.specs.Prelude.{ℕ, List, Option}
use Rattle.cc_base.specs.declared.identifiers.ClassId.{ClassId}
use Rattle.cc_base.specs.declared.identifiers.LocalId.{LocalId}
use Rattle.cc_core.specs.declared.tree.LoopKind.{LoopKind}
use Rattle.cc_core.specs.declared.tree.SwitchLabel.{SwitchLabel}
use Rattle.cc_core.specs.Types.{BareType}
use Rattle.cc_core.specs.Term.{Term}

-- The number of a Break or a Continue counts the Blocks, Switches and Loops around it from the inside.
mutual
  pub data Region : Type 0 where
    Sequence : Regions → Region
    Do Throw : Term → Region
    Declare : LocalId → BareType → Option Term → Region
    If : Term → Region → Region → Region
    Block : Region → Region
    Switch : LocalId → Term → Sections → Region
    Loop : LoopKind → Term → Option Term → Region → Region
    Guard OnThrow Finally : Region → Region → Region
    Catch : Region → Clauses → Region
    Rethrow : Region
    Break Continue : ℕ → Region
    Return : Option Term → Region

  pub data Regions : Type 0 where
    no_regions : Regions
    next_region : Region → Regions → Regions

  pub data Sections : Type 0 where
    no_sections : Sections
    next_section : List SwitchLabel → Regions → Sections → Sections

  pub data Clauses : Type 0 where
    no_clauses : Clauses
    next_clause : Option ClassId → Option LocalId → Region → Clauses → Clauses
