-- The machine goes one way, and a check has one answer.
use Rattle.std.proofs.Common.{◌≡◌, ◌<◌, ◌≤◌, ◌+◌, ℕ, zero, suc, List, [], ◌∷◌, ◌++◌, length, drop, refl, sym, ap, subst, ◌∙◌, length-append, length-drop, arith}
use Rattle.std.specs.Prelude.{Bool, true, false, Option, Some, None, ◌/◌, ◌%◌, ◌-◌, ◌&&◌, ◌==◌, nat_lt, if◌then◌else◌}
use Rattle.cc_cil.specs.declared.instruction.Instruction.{Instruction}
use Rattle.cc_cil.specs.declared.action.Action.{Action}
use Rattle.cc_cil.specs.Instructions.{spelling, opcode, operand, IsInRange}
use Rattle.std.proofs.lemmas.Bool.{eqb-true, false≢true}
use Rattle.cc_cil.specs.declared.action.Action.TheVariants.{Return}
use Rattle.cc_cil.specs.Steps.{State, Running, Ended, Stands, Does, Step, Runs, Checks, action_of, height_at, is_return, pushes, adds, subtracts, multiplies, writes, returns, does, stays, goes, ends, wrong, unread}
use Rattle.cc_cil.proofs.Unique.{spelling_one}

pub stands_one : (code : List ℕ) (at : ℕ) (i j : Instruction) → Stands code at i → Stands code at j → i ≡ j
stands_one code at i j (x, e, p) (y, f, q) = (spelling_one i j x y p q (sym e ∙ f)).0

pub does_one : {a : Action} {at : ℕ} {stack : List ℕ} {out : List ℕ} {s t : State} → Does a at stack out s → Does a at stack out t → s ≡ t
does_one pushes pushes = refl
does_one adds adds = refl
does_one subtracts subtracts = refl
does_one multiplies multiplies = refl
does_one writes writes = refl
does_one returns returns = refl

value_or : {A : Type 0} → A → Option A → A
value_or a (Some x) = x
value_or a None = a

pub some_is : {A : Type 0} (a b : A) → Some a ≡ Some b → a ≡ b
unfolding value_or
some_is a b e = ap (value_or a) e

pub step_one : {code : List ℕ} {s t u : State} → Step code s t → Step code s u → t ≡ u
step_one {code} {u = u} (does {at} {stack} {out} i a p e d) (does j b q f g) =
    let same : i ≡ j = stands_one code at i j p q in
    let one : a ≡ b = some_is a b (sym e ∙ ap action_of same ∙ f) in
    does_one d (subst (λ x. Does x (at + length (spelling i)) stack out u) (sym one) (subst (λ x. Does b (at + length (spelling x)) stack out u) (sym same) g))

opcode_some : (code : ℕ) (b : Bool) → 0 < length (if b then code ∷ [] else code / 0x100 ∷ code % 0x100 ∷ [])
opcode_some code true = omega arith
opcode_some code false = omega arith

pub spelling_some : (i : Instruction) → 0 < length (spelling i)
spelling_some i = let some = opcode_some (opcode i) (nat_lt (opcode i) 0x100) in rw length-append (omega (arith, some))

-- an instruction ends within the code
pub stands_within : (code : List ℕ) (at : ℕ) (i : Instruction) → Stands code at i → at ≤ length code → at + length (spelling i) ≤ length code
stands_within code at i (rest, e, p) h =
    let size : length code - at ≡ length (spelling i) + length rest = sym (length-drop at code) ∙ ap length e ∙ length-append (spelling i) rest in
    omega (arith, size, h, spelling_some i)

-- nothing stands at the end
pub end_none : (code : List ℕ) (at : ℕ) → length code ≤ at → (i : Instruction) → Stands code at i → ⊥
end_none code at h i (rest, e, p) =
    let size : length code - at ≡ length (spelling i) + length rest = sym (length-drop at code) ∙ ap length e ∙ length-append (spelling i) rest in
    absurd (omega (arith, size, h, spelling_some i))

and_parts : (x y : Bool) → (x && y) ≡ true → (x ≡ true) × (y ≡ true)
and_parts true y e = (refl, e)
and_parts false y e = absurd (false≢true e)

abbrev IsNoneHere : {A : Type 0} → Option A → Type 0
IsNoneHere None = Unit {0}
IsNoneHere (Some a) = ⊥

pub none_some : {A : Type 0} (n : Option A) (a : A) → n ≡ None → n ≡ Some a → ⊥
none_some n a e f = subst IsNoneHere (sym e ∙ f) tt

abbrev at_one : Bool → Option ℕ
at_one b = if b then Some 0 else None

one_height : (b : Bool) (behind : ℕ) → at_one b ≡ Some behind → at_one b ≡ Some 0
one_height true behind e = refl
one_height false behind e = absurd (none_some None behind refl e)

-- behind a return the stack is empty
return_height : (most height : ℕ) (a : Option Action) (behind : ℕ) → is_return a ≡ true → height_at most a height ≡ Some behind → height_at most a height ≡ Some 0
return_height most height (Some Return) behind r e = one_height (height == 1) behind e
return_height most height None behind r e = absurd (false≢true r)
return_height most height (Some _) behind r e = absurd (false≢true r)

module _ (code : List ℕ) (most at height next : ℕ) (i : Instruction) (a : Option Action) (length_is : ℕ) (behind : ℕ) (b : Bool)
    (stands : Stands code at i) (is_action : a ≡ action_of i) (is_next : next ≡ at + length (spelling i)) (fits : Some behind ≡ height_at most a height) (size : length_is ≡ length code)
    (last : b ≡ (is_return a && (next == length_is))) where
  -- the code ends behind a return
  pub last_here : b ≡ true → Checks code most at height None
  last_here h =
      let parts = and_parts (is_return a) (next == length_is) (sym last ∙ h) in
      ends i stands (rw (← is_action) parts.0) (rw (← is_action) (return_height most height a behind parts.0 (sym fits))) (sym is_next ∙ eqb-true next length_is parts.1 ∙ size)

  -- the check goes on behind the instruction
  pub on_from_here : b ≡ false → (answer : Option ℕ) → Checks code most next behind answer → Checks code most at height answer
  on_from_here h answer more =
      goes i stands (sym (fits ∙ ap (λ x. height_at most x height) is_action))
      (rw (← is_action, ← is_next, ← size, ← last) h)
      (subst (λ n. Checks code most n behind answer) is_next more)
