-- Code that does what a straight source says: an instruction for each operation, in order.
use Rattle.std.specs.Prelude.{◌≡◌, ◌≤◌, ◌+◌, ◌^◌, ℕ, max, Some, List, [], ◌∷◌, length}
use Rattle.std.specs.List.{flat_map, AllByRecursion}
use Rattle.cc_core.specs.declared.straight.StraightOperator.{StraightOperator}
use Rattle.cc_core.specs.declared.straight.StraightOperator.TheVariants as operator
use Rattle.cc_core.specs.declared.straight.StraightOperation.{StraightOperation}
use Rattle.cc_core.specs.declared.straight.StraightOperation.TheVariants as operation
use Rattle.cc_core.specs.StraightSource.{Term, number, apply, Source, source_operations}
use Rattle.cc_cil.specs.declared.body.Body.{Body}
use Rattle.cc_cil.specs.declared.instruction.Instruction.{Instruction}
use Rattle.cc_cil.specs.declared.action.Action.{Action}
use Rattle.cc_cil.specs.declared.action.Action.TheVariants.{Push, Add, Subtract, Multiply, WriteLine, Return}
use Rattle.cc_cil.specs.Instructions.{spelling, operand, IsInRange}
use Rattle.cc_cil.specs.Steps.{action_of}

abbrev pub operator_action : StraightOperator → Action
operator_action operator.Add = Add
operator_action operator.Subtract = Subtract
operator_action operator.Multiply = Multiply

abbrev pub action_for : StraightOperation → Action
action_for (operation.Number n) = Push n
action_for (operation.Apply o) = operator_action o
action_for operation.WriteLine = WriteLine
action_for operation.Return = Return

-- instructions that act as operations say, one for one
abbrev pub Acts : List Instruction → List StraightOperation → Type 0
Acts [] [] = Unit {0}
Acts (i ∷ is) (o ∷ os) = (action_of i ≡ Some (action_for o)) × IsInRange (operand i) × Acts is os
Acts [] (o ∷ os) = ⊥
Acts (i ∷ is) [] = ⊥

-- how many values a term holds at a time
abbrev pub height_of : Term → ℕ
height_of (number n) = 1
height_of (apply o l r) = max (height_of l) (1 + height_of r)

-- the greatest height of a straight program's stack: that of its tree
abbrev pub greatest_height : ℕ
greatest_height = 256

-- the terms of a source are no higher than the greatest height, and its operations no more than a source has bytes
pub record IsSmall (source : Source) : Type 0 where
  pub lines_low : AllByRecursion (λ t. height_of t ≤ greatest_height) source.lines
  pub result_low : height_of source.result ≤ greatest_height
  pub short : length (source_operations source) ≤ 2 ^ 20

-- the body has the code of the source, room for its values, and no more instructions than a source has bytes
pub record RunsAs (body : Body) (source : Source) : Type 0 where
  pub instructions : List Instruction
  pub code : body.code ≡ flat_map spelling instructions
  pub acts : Acts instructions (source_operations source)
  pub lines_low : AllByRecursion (λ t. height_of t ≤ greatest_height) source.lines
  pub result_low : height_of source.result ≤ greatest_height
  pub short : length (source_operations source) ≤ 2 ^ 21

-- the code of some operations
abbrev pub IsCodeOf : List ℕ → List StraightOperation → Type 0
IsCodeOf code operations = (instructions : List Instruction) × (code ≡ flat_map spelling instructions) × Acts instructions operations
