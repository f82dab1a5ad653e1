-- What each action does to the stack, by the values popped and pushed.
use Rattle.std.proofs.Common.{◌≡◌, ◌≢◌, ◌≤◌, ◌<◌, ◌+◌, ◌-◌, ℕ, suc, List, [], ◌∷◌, ◌++◌, length, refl, sym, ap, subst, ◌∙◌, arith}
use Rattle.std.specs.Prelude.{◌*◌, ◌%◌, ◌^◌, Bool, true, false, Option, Some, None, nat_lt, ◌==◌, if◌then◌else◌, reverse}
use Rattle.std.specs.Int.{w32, cast_signed}
use Rattle.std.proofs.lemmas.Bool.{eqb-true, ltb-true}
use Rattle.std.proofs.lemmas.List.{length-reverse}
use Rattle.cc_base.specs.declared.running.Ending.TheVariants as ending
use Rattle.cc_cil.specs.declared.action.Action.{Action}
use Rattle.cc_cil.specs.declared.action.Action.TheVariants.{Push, Add, Subtract, Multiply, WriteLine, Return}
use Rattle.cc_cil.specs.Steps.{State, Running, Ended, Does, height_behind, pushes, adds, subtracts, multiplies, writes, returns}
use Rattle.cc_machine.specs.Machine.{line_of}
use Rattle.cc_machine.proofs.OneWay.{none_some, some_is}

pub does_push : (action : Action) (n : ℕ) (next : ℕ) (old new : List ℕ) (out : List ℕ) → action ≡ Push n → new ≡ n ∷ old → Does action next old out (Running next new out)
does_push action n next old new out a e = rw (a, e) pushes

pub does_add : (action : Action) (l r : ℕ) (next : ℕ) (old mid rest new : List ℕ) (out : List ℕ) → action ≡ Add → old ≡ r ∷ mid → mid ≡ l ∷ rest → new ≡ ((l + r) % 2 ^ 32) ∷ rest → Does action next old out (Running next new out)
does_add action l r next old mid rest new out a e f g = rw (a, e, f, g) adds

pub does_subtract : (action : Action) (l r : ℕ) (next : ℕ) (old mid rest new : List ℕ) (out : List ℕ) → action ≡ Subtract → old ≡ r ∷ mid → mid ≡ l ∷ rest → new ≡ ((l + (2 ^ 32 - r)) % 2 ^ 32) ∷ rest → Does action next old out (Running next new out)
does_subtract action l r next old mid rest new out a e f g = rw (a, e, f, g) subtracts

pub does_multiply : (action : Action) (l r : ℕ) (next : ℕ) (old mid rest new : List ℕ) (out : List ℕ) → action ≡ Multiply → old ≡ r ∷ mid → mid ≡ l ∷ rest → new ≡ (l * r % 2 ^ 32) ∷ rest → Does action next old out (Running next new out)
does_multiply action l r next old mid rest new out a e f g = rw (a, e, f, g) multiplies

pub does_write : (action : Action) (n : ℕ) (next : ℕ) (old new : List ℕ) (out out' : List ℕ) → action ≡ WriteLine → old ≡ n ∷ new → out' ≡ out ++ line_of n → Does action next old out (Running next new out')
does_write action n next old new out out' a e f = rw (a, e, f) writes

abbrev one_left : Bool → Option ℕ
one_left b = if b then Some 0 else None

is_one : (b : Bool) (behind : ℕ) → one_left b ≡ Some behind → b ≡ true
is_one true behind e = refl
is_one false behind e = absurd (none_some None behind refl e)

empty : (l : List ℕ) → length l ≡ 0 → l ≡ []
empty [] e = refl
empty (n ∷ l) e = absurd (omega (arith, e))

pub does_return : (action : Action) (n : ℕ) (next most behind height : ℕ) (old new : List ℕ) (out : List ℕ) → action ≡ Return → old ≡ n ∷ new → height ≡ length old → height_behind most action height ≡ Some behind
    → Does action next old out (Ended (ending.Returned (cast_signed w32 n)) out)
does_return action n next most behind height old new out a e size h =
    let one : height ≡ 1 = eqb-true height 1 (is_one (height == 1) behind (subst (λ x. height_behind most x height ≡ Some behind) a h)) in
    let none : new ≡ [] = empty new (let s : length old ≡ suc (length new) = ap length e in omega (arith, s, size, one)) in
    rw (a, e, none) returns
