-- The machine over the body of a straight program (ECMA-335, I.12.3): its state, one step, and runs of steps.
--   action_of i        what the machine does at an instruction, if it has the instruction
--   Stands code at i   the instruction begins at this offset of the code
--   Step code s t      one instruction leads from a state to the next
--   Runs code n s t    n instructions do
--   Checks code most at height answer   the stack's height is right from an offset on, or is first wrong at the answer
use Rattle.std.specs.Prelude.{◌≡◌, ◌≢◌, ◌==◌, ◌&&◌, ℕ, zero, suc, ◌+◌, ◌-◌, ◌*◌, ◌%◌, ◌^◌, ◌<◌, Bool, true, false, Option, Some, None, List, [], ◌∷◌, ◌++◌, length, drop, nat_lt, if◌then◌else◌}
use Rattle.std.specs.Int.{w32, cast_signed, cast_unsigned}
use Rattle.std.specs.Fmt.{signed_decimal}
use Rattle.cc_base.specs.declared.running.Ending.{Ending}
use Rattle.cc_base.specs.declared.running.Ending.TheVariants.{Returned}
use Rattle.cc_cil.specs.declared.instruction.Instruction.{Instruction}
use Rattle.cc_cil.specs.declared.instruction.Instruction.TheVariants as the
use Rattle.cc_cil.specs.declared.action.Action.{Action}
use Rattle.cc_cil.specs.declared.action.Action.TheVariants.{Push, Add, Subtract, Multiply, WriteLine, Return}
use Rattle.cc_cil.specs.Instructions.{spelling, operand, IsInRange}

abbrev pub action_of : Instruction → Option Action
action_of the.LoadIntMinus1 = Some (Push 0xFFFFFFFF)
action_of the.LoadInt0 = Some (Push 0)
action_of the.LoadInt1 = Some (Push 1)
action_of the.LoadInt2 = Some (Push 2)
action_of the.LoadInt3 = Some (Push 3)
action_of the.LoadInt4 = Some (Push 4)
action_of the.LoadInt5 = Some (Push 5)
action_of the.LoadInt6 = Some (Push 6)
action_of the.LoadInt7 = Some (Push 7)
action_of the.LoadInt8 = Some (Push 8)
action_of (the.LoadIntShort value) = Some (Push (cast_unsigned w32 value))
action_of (the.LoadInt value) = Some (Push (cast_unsigned w32 value))
action_of (the.Call method) = if method == 0x0A000001 then Some WriteLine else None
action_of the.Return = Some Return
action_of the.Add = Some Add
action_of the.Subtract = Some Subtract
action_of the.Multiply = Some Multiply
action_of _ = None

-- A state: the offset of the next instruction, the evaluation stack from its top, whose values are 32 bits, and the bytes printed; or how the run ended, and the bytes printed.
pub data State : Type 0 where
  Running : ℕ → List ℕ → List ℕ → State
  Ended : Ending → List ℕ → State

abbrev pub Stands : List ℕ → ℕ → Instruction → Type 0
Stands code at i = (rest : List ℕ) × (drop at code ≡ spelling i ++ rest) × IsInRange (operand i)

-- what an action makes of the stack and the output, and where it leads
pub data Does : Action → ℕ → List ℕ → List ℕ → State → Type 0 where
  pushes : {n : ℕ} {at : ℕ} {stack : List ℕ} {out : List ℕ} → Does (Push n) at stack out (Running at (n ∷ stack) out)
  adds : {a b : ℕ} {at : ℕ} {stack : List ℕ} {out : List ℕ} → Does Add at (b ∷ a ∷ stack) out (Running at (((a + b) % 2 ^ 32) ∷ stack) out)
  subtracts : {a b : ℕ} {at : ℕ} {stack : List ℕ} {out : List ℕ} → Does Subtract at (b ∷ a ∷ stack) out (Running at (((a + (2 ^ 32 - b)) % 2 ^ 32) ∷ stack) out)
  multiplies : {a b : ℕ} {at : ℕ} {stack : List ℕ} {out : List ℕ} → Does Multiply at (b ∷ a ∷ stack) out (Running at ((a * b % 2 ^ 32) ∷ stack) out)
  writes : {n : ℕ} {at : ℕ} {stack : List ℕ} {out : List ℕ} → Does WriteLine at (n ∷ stack) out (Running at stack (out ++ (signed_decimal (cast_signed w32 n) ++ 10 ∷ [])))
  returns : {n : ℕ} {at : ℕ} {out : List ℕ} → Does Return at (n ∷ []) out (Ended (Returned (cast_signed w32 n)) out)

pub data Step (code : List ℕ) : State → State → Type 0 where
  does : {at : ℕ} {stack : List ℕ} {out : List ℕ} {next : State} (i : Instruction) (a : Action) → Stands code at i → action_of i ≡ Some a → Does a (at + length (spelling i)) stack out next
      → Step code (Running at stack out) next

pub data Runs (code : List ℕ) : ℕ → State → State → Type 0 where
  stays : {s : State} → Runs code zero s s
  steps : {n : ℕ} {s t u : State} → Step code s t → Runs code n t u → Runs code (suc n) s u

-- the height of the stack behind an action, where it is right before it: enough values, no more than the greatest height, and one alone at the end
abbrev pub height_behind : ℕ → Action → ℕ → Option ℕ
height_behind most (Push n) height = if nat_lt height most then Some (height + 1) else None
height_behind most Add height = if nat_lt height 2 then None else Some (height - 1)
height_behind most Subtract height = if nat_lt height 2 then None else Some (height - 1)
height_behind most Multiply height = if nat_lt height 2 then None else Some (height - 1)
height_behind most WriteLine height = if nat_lt height 1 then None else Some (height - 1)
height_behind most Return height = if height == 1 then Some 0 else None

abbrev pub height_at : ℕ → Option Action → ℕ → Option ℕ
height_at most None height = None
height_at most (Some a) height = height_behind most a height

abbrev pub is_return : Option Action → Bool
is_return (Some Return) = true
is_return _ = false

-- nothing begins here that is an instruction
abbrev pub StandsNone : List ℕ → ℕ → Type 0
StandsNone code at = (i : Instruction) → Stands code at i → ⊥

-- No offset is wrong from here on, where the answer is none; else the answer is the first: no instruction stands there, the machine does not have it, or the height is wrong.
-- The code ends behind a return; behind another return the stack is empty.
pub data Checks (code : List ℕ) (most : ℕ) : ℕ → ℕ → Option ℕ → Type 0 where
  ends : {at height : ℕ} (i : Instruction) → Stands code at i → is_return (action_of i) ≡ true → height_at most (action_of i) height ≡ Some 0 → at + length (spelling i) ≡ length code → Checks code most at height None
  goes : {at height next : ℕ} {answer : Option ℕ} (i : Instruction) → Stands code at i → height_at most (action_of i) height ≡ Some next
      → (is_return (action_of i) && (at + length (spelling i) == length code)) ≡ false → Checks code most (at + length (spelling i)) next answer → Checks code most at height answer
  wrong : {at height : ℕ} (i : Instruction) → Stands code at i → height_at most (action_of i) height ≡ None → Checks code most at height (Some at)
  unread : {at height : ℕ} → StandsNone code at → Checks code most at height (Some at)
