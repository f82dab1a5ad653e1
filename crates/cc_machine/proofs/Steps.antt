-- One step of a run that may go on, and many.
use Rattle.std.proofs.Common.{◌≡◌, ◌≢◌, ◌≤◌, ◌<◌, ◌+◌, ◌-◌, ℕ, zero, suc, List, [], ◌∷◌, ◌++◌, length, refl, sym, ap, subst, ◌∙◌, add-one, arith}
use Rattle.std.specs.Prelude.{Bool, true, false, Option, Some, None, nat_lt, ◌==◌, if◌then◌else◌, reverse, vec_capacity}
use Rattle.std.proofs.lemmas.Bool.{eqb-true, ltb-true}
use Rattle.std.proofs.lemmas.List.{length-reverse}
use Rattle.cc_cil.specs.declared.body.Body.{Body}
use Rattle.cc_cil.specs.declared.action.Action.{Action}
use Rattle.cc_cil.specs.declared.action.Action.TheVariants.{Push, Add, Subtract, Multiply, WriteLine, Return}
use Rattle.cc_cil.specs.Steps.{State, Running, Ended, Stands, Does, Step, Runs, Checks, height_behind, does, stays, steps, pushes, adds, subtracts, multiplies, writes, returns}
use Rattle.cc_machine.specs.declared.machine.Phase.{Phase}
use Rattle.cc_machine.specs.declared.machine.Phase.TheVariants as phase
use Rattle.cc_machine.specs.Machine.{IsFetched, state_in}
use Rattle.cc_machine.proofs.OneWay.{none_some, some_is}

abbrev if_some : Bool → ℕ → Option ℕ
if_some b n = if b then Some n else None

abbrev unless_some : Bool → ℕ → Option ℕ
unless_some b n = if b then None else Some n

taken : (b : Bool) (n behind : ℕ) → if_some b n ≡ Some behind → (b ≡ true) × (n ≡ behind)
taken true n behind e = (refl, some_is n behind e)
taken false n behind e = absurd (none_some None behind refl e)

left : (b : Bool) (n behind : ℕ) → unless_some b n ≡ Some behind → n ≡ behind
left true n behind e = absurd (none_some None behind refl e)
left false n behind e = some_is n behind e

-- the height that the check foresees
abbrev pub Lands : State → ℕ → ℕ → Type 0
Lands (Running at stack out) behind most = (length stack ≡ behind) × (behind ≤ most)
Lands (Ended ending out) behind most = Unit {0}

pub lands : {a : Action} {next : ℕ} {stack out : List ℕ} {s : State} → Does a next stack out s → (most behind : ℕ) → height_behind most a (length stack) ≡ Some behind → length stack ≤ most → Lands s behind most
lands (pushes {stack = stack}) most behind h low = let t = taken (nat_lt (length stack) most) (length stack + 1) behind h in let l = ltb-true _ _ t.0 in (omega (arith, t.1), omega (arith, t.1, l))
lands (adds {stack = stack}) most behind h low = let t = left (nat_lt (suc (suc (length stack))) 2) (suc (suc (length stack)) - 1) behind h in (omega (arith, t), omega (arith, t, low))
lands (subtracts {stack = stack}) most behind h low = let t = left (nat_lt (suc (suc (length stack))) 2) (suc (suc (length stack)) - 1) behind h in (omega (arith, t), omega (arith, t, low))
lands (multiplies {stack = stack}) most behind h low = let t = left (nat_lt (suc (suc (length stack))) 2) (suc (suc (length stack)) - 1) behind h in (omega (arith, t), omega (arith, t, low))
lands (writes {stack = stack}) most behind h low = let t = left (nat_lt (suc (length stack)) 1) (suc (length stack) - 1) behind h in (omega (arith, t), omega (arith, t, low))
lands returns most behind h low = tt

pub more : {code : List ℕ} {n : ℕ} {s t u : State} → Runs code n s t → Step code t u → Runs code (suc n) s u
more stays h = steps h stays
more (steps p q) h = steps p (more q h)

abbrev GoesOn : Action → Type 0
GoesOn Return = ⊥
GoesOn _ = Unit {0}

no_return : {a : Action} {next at : ℕ} {stack out stack' out' : List ℕ} → Does a next stack out (Running at stack' out') → a ≢ Return
no_return pushes e = subst GoesOn e tt
no_return adds e = subst GoesOn e tt
no_return subtracts e = subst GoesOn e tt
no_return multiplies e = subst GoesOn e tt
no_return writes e = subst GoesOn e tt

module _ (body : Body) (at height next : ℕ) (action : Action) (old new out out' : List ℕ) (p : Phase) (fetched : IsFetched body at height action next) (size : height ≡ length old)
    (low : length old ≤ body.max_stack) (d : (n : ℕ) → Does action n (reverse old) out (state_in p n (reverse new) out')) where
  -- where the run goes on, the check does, and the stack is no higher than its greatest height
  pub goes_on : p ≡ phase.Running → Checks body.code body.max_stack next (length new) None × (length new ≤ body.max_stack)
  goes_on running =
      let here : Does action next (reverse old) out (Running next (reverse new) out') = subst (λ q. Does action next (reverse old) out (state_in q next (reverse new) out')) running (d next) in
      let same : length (reverse old) ≡ height = length-reverse old ∙ sym size in
      let l = lands here body.max_stack fetched.1 (rw same fetched.5) (rw length-reverse low) in
      let new_size : fetched.1 ≡ length new = sym l.0 ∙ length-reverse new in
      (subst (λ h. Checks body.code body.max_stack next h None) new_size (fetched.6 (no_return here)), rw (← new_size) l.1)

  pub step_from : (q : Phase) → q ≡ phase.Running → Step body.code (state_in q at (reverse old) out) (state_in p next (reverse new) out')
  step_from q running =
      subst (λ r. Step body.code (state_in r at (reverse old) out) (state_in p next (reverse new) out')) (sym running)
      (does fetched.0 action fetched.2 fetched.3 (subst (λ n. Does action n (reverse old) out (state_in p next (reverse new) out')) fetched.4 (d next)))

pub one_more : {code : List ℕ} {n : ℕ} {s t u : State} → Runs code n s t → Step code t u → Runs code (n + 1) s u
one_more {code} {n} {s} {t} {u} p h = subst (λ m. Runs code m s u) (sym (add-one n)) (more p h)
