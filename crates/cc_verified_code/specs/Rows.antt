-- Code with the stack before each instruction, and what it is for an instruction of it to keep the verifier's rules (ECMA-335, III.1.7).
--   HasRows at pc rows     these rows stand from an offset on, one after another, in code of which `at` says what begins where
--   Expects at pc s        an instruction begins at the offset, before which the stack is s
--   Reached pc s           the stack is empty, or an instruction before the offset leads to it
--   Takes t s out          a transition leads from one stack to the other
--   Good pc r              an instruction keeps the rules
--   fetch rows lo          what begins at each offset of rows that begin at this one
use Rattle.std.specs.Prelude.{◌≡◌, ◌==◌, ◌⊎◌, if◌then◌else◌, ℕ, ◌+◌, ◌<◌, ◌≤◌, true, List, [], ◌∷◌, length, Option, Some, None, ⊤}
use Rattle.cc_cil.specs.declared.instruction.Instruction.{Instruction}
use Rattle.cc_code.specs.Instructions.{width}
use Rattle.cc_verify.specs.declared.environment.Environment.{Environment}
use Rattle.cc_verify.specs.declared.environment.Frame.{Frame}
use Rattle.cc_verify.specs.declared.places.Place.{Place}
use Rattle.cc_verify.specs.declared.transition.Transition.{Transition}
use Rattle.cc_verify.specs.Rules.{stands}
use Rattle.cc_verify.specs.Transitions.{Stack, transition_of, is_built, takes, gives, effect, stores_fit, falls, branches, jump}

pub record Row : Type 0 where
  pub instruction : Instruction
  pub stack : Stack

abbrev pub row : Instruction → Stack → Row
row i s = record { instruction = i; stack = s }

abbrev pub instruction_of : Row → Instruction
instruction_of r = r.instruction

-- what begins at each offset of code
abbrev pub Table : Type 0
Table = ℕ → Option Row

abbrev pub HasRows : Table → ℕ → List Row → Type 0
HasRows at pc [] = ⊤
HasRows at pc (r ∷ rows) = (at pc ≡ Some r) × HasRows at (pc + width r.instruction) rows

abbrev pub Expects : Table → ℕ → Stack → Type 0
Expects at pc s = (i : Instruction) × (at pc ≡ Some (row i s))

abbrev pub transition : Row → Transition
transition r = transition_of r.instruction

-- an earlier instruction branches to the offset, or is followed by it
pub record Came (at : Table) (pc : ℕ) : Type 0 where
  pub from : ℕ
  pub by : Row
  pub before : from < pc
  pub is : at from ≡ Some by
  pub leads : (jump (transition by) (from + width by.instruction) ≡ Some pc) ⊎ ((falls (transition by) ≡ true) × (from + width by.instruction ≡ pc))

abbrev pub Reached : Table → ℕ → Stack → Type 0
Reached at pc s = (s ≡ []) ⊎ Came at pc

-- With these methods, in a method with these variables and this greatest stack.
module _ (e : Environment) (f : Frame) (most : ℕ) where
  pub record Takes (t : Transition) (s out : Stack) : Type 0 where
    pub does : effect e f t s ≡ Some out
    pub built : is_built e f t ≡ true
    pub stores : stores_fit f t s ≡ true
    pub outside : stands t None ≡ true
    -- the values that it leaves where they are
    pub under : ℕ
    pub taken : length s ≡ takes e f t + under
    pub given : length out ≡ gives e f t + under
    pub high : length s ≤ most
    pub high_behind : length out ≤ most

  pub record Leads (at : Table) (t : Transition) (next : ℕ) (out : Stack) : Type 0 where
    pub target : ℕ
    pub is : jump t next ≡ Some target
    pub expects : Expects at target out

  pub record Good (at : Table) (pc : ℕ) (r : Row) : Type 0 where
    pub out : Stack
    pub step : Takes (transition r) r.stack out
    pub falls_to : falls (transition r) ≡ true → Expects at (pc + width r.instruction) out
    pub leads_to : branches (transition r) ≡ true → Leads at (transition r) (pc + width r.instruction) out
    pub reached : Reached at pc r.stack

  abbrev pub AllGood : Table → ℕ → List Row → Type 0
  AllGood at pc [] = ⊤
  AllGood at pc (r ∷ rows) = Good at pc r × AllGood at (pc + width r.instruction) rows

-- ---- whole code

abbrev pub fetch : List Row → ℕ → Table
fetch [] lo pc = None
fetch (r ∷ rows) lo pc = if lo == pc then Some r else fetch rows (lo + width r.instruction) pc

abbrev pub places : ℕ → List Row → List Place
places lo [] = []
places lo (r ∷ rows) = record { at = lo; instruction = r.instruction; next = lo + width r.instruction } ∷ places (lo + width r.instruction) rows
