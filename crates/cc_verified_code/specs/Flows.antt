-- Code that leads from one stack to another and keeps the rules, wherever it is put.
use Rattle.std.specs.Prelude.{◌≡◌, ℕ, ◌+◌, List, map}
use Rattle.cc_cil.specs.declared.instruction.Instruction.{Instruction}
use Rattle.cc_code.specs.Instructions.{bytes}
use Rattle.cc_verify.specs.declared.environment.Environment.{Environment}
use Rattle.cc_verify.specs.declared.environment.Frame.{Frame}
use Rattle.cc_verify.specs.Transitions.{Stack}
use Rattle.cc_verified_code.specs.Rows.{Row, Table, instruction_of, HasRows, Expects, Reached, AllGood}

-- Code at an offset with a stack before it, in tables of which `Given` holds: there are stacks between its instructions, with which each of them keeps the rules where the code is reached and what follows it expects the last stack.
pub record Flows (e : Environment) (f : Frame) (most : ℕ) (Given : Table → Type 0) (code : List Instruction) (lo : ℕ) (s out : Stack) : Type 0 where
  pub rows : List Row
  pub is : map instruction_of rows ≡ code
  pub begins : (at : Table) (hi : ℕ) → lo + bytes code ≡ hi → HasRows at lo rows → Expects at hi out → Expects at lo s
  pub reaches : (at : Table) (hi : ℕ) → lo + bytes code ≡ hi → HasRows at lo rows → Reached at lo s → Reached at hi out
  pub good : (at : Table) → Given at → (hi : ℕ) → lo + bytes code ≡ hi → HasRows at lo rows → Reached at lo s → Expects at hi out → AllGood e f most at lo rows

-- Code that ends a method: nothing follows it.
pub record Ends (e : Environment) (f : Frame) (most : ℕ) (code : List Instruction) (lo : ℕ) (s : Stack) : Type 0 where
  pub rows : List Row
  pub is : map instruction_of rows ≡ code
  pub begins : (at : Table) → HasRows at lo rows → Expects at lo s
  pub good : (at : Table) → HasRows at lo rows → Reached at lo s → AllGood e f most at lo rows
