-- Typed statements, without the places where their parts stand in memory.
use Rattle.std.specs.Prelude.{List, Option}
use Rattle.cc_base.specs.declared.identifiers.ClassId.{ClassId}
use Rattle.cc_base.specs.declared.identifiers.LocalId.{LocalId}
use Rattle.cc_core.specs.declared.tree.LoopKind.{LoopKind}
use Rattle.cc_core.specs.declared.tree.SwitchLabel.{SwitchLabel}
use Rattle.cc_core.specs.Types.{BareType}
use Rattle.cc_core.specs.Term.{Term}

mutual
  pub data Step : Type 0 where
    Block : Steps → Step
    Do Throw Delete : Term → Step
    Declare : LocalId → BareType → Option Term → Step
    DeclareStack : LocalId → Term → Step
    If : Term → Step → Step → Step
    Loop : LoopKind → Term → Option Term → Step → Step
    ForEach : LocalId → Term → Step → Step
    Switch : LocalId → Term → Sections → Step
    Break Continue Rethrow : Step
    Return : Option Term → Step
    Try : Step → Handlers → AtLast → Step

  pub data Steps : Type 0 where
    no_steps : Steps
    next_step : Step → Steps → Steps

  pub data Sections : Type 0 where
    no_sections : Sections
    next_section : List SwitchLabel → Steps → Sections → Sections

  pub data Handlers : Type 0 where
    no_handlers : Handlers
    next_handler : Option ClassId → Option LocalId → Step → Handlers → Handlers

  -- what is done at last, where something is
  pub data AtLast : Type 0 where
    nothing : AtLast
    something : Step → AtLast
