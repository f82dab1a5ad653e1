-- What comes behind a part by the part's end, and the turns of loops that count down.
use Rattle.std.proofs.Common.{◌≡◌, ℕ, zero, suc, ◌-◌, ◌<◌, [], true, false, Result, Ok, Err, refl, ap, sym, ◌∙◌, arith}
use Rattle.cc_core.specs.declared.state.Exit.{Exit}
use Rattle.cc_core.specs.declared.state.Exit.TheVariants.{Normal, Break, Continue, Return}
use Rattle.cc_core.specs.declared.state.State.{State}
use Rattle.cc_core.specs.declared.state.Stop.{Stop}
use Rattle.cc_core.specs.declared.state.Stop.TheVariants.{Going}
use Rattle.cc_core.specs.declared.world.Value.{Value}
use Rattle.cc_core.specs.Run.{Ran, Does, bind, gives, tick, by_truth}
use Rattle.cc_core.specs.Leave.{then_step, then_in_scope, after_body, broken, turns, turns_after}
use Rattle.cc_mean.specs.Turns.{is_normal, goes_on, past_break}

-- ---- one part behind another

pub step_next : (e : Result Exit Stop) (s : State) (next : Does Exit) → is_normal e ≡ true → then_step (e, s) next ≡ next s
step_next (Ok Normal) s next h = refl
step_next (Ok Break) s next h = cc
step_next (Ok Continue) s next h = cc
step_next (Ok (Return v)) s next h = cc
step_next (Err x) s next h = cc

pub step_ends : (e : Result Exit Stop) (s : State) (next : Does Exit) → is_normal e ≡ false → then_step (e, s) next ≡ (e, s)
step_ends (Ok Normal) s next h = cc
step_ends (Ok Break) s next h = refl
step_ends (Ok Continue) s next h = refl
step_ends (Ok (Return v)) s next h = refl
step_ends (Err x) s next h = refl

pub scope_next : (e : Result Exit Stop) (s : State) (next : Does Exit) → is_normal e ≡ true → then_in_scope [] (e, s) next ≡ next s
scope_next (Ok Normal) s next h = refl
scope_next (Ok Break) s next h = cc
scope_next (Ok Continue) s next h = cc
scope_next (Ok (Return v)) s next h = cc
scope_next (Err x) s next h = cc

pub scope_ends : (e : Result Exit Stop) (s : State) (next : Does Exit) → is_normal e ≡ false → then_in_scope [] (e, s) next ≡ (e, s)
scope_ends (Ok Normal) s next h = cc
scope_ends (Ok Break) s next h = refl
scope_ends (Ok Continue) s next h = refl
scope_ends (Ok (Return v)) s next h = refl
scope_ends (Err x) s next h = refl

pub ruleset step_laws = (step_next, step_ends)

pub ruleset scope_laws = (scope_next, scope_ends)

pub body_next : (e : Result Exit Stop) (s : State) (next : Does Exit) → goes_on e ≡ true → after_body (e, s) next ≡ next s
body_next (Ok Normal) s next h = refl
body_next (Ok Break) s next h = cc
body_next (Ok Continue) s next h = refl
body_next (Ok (Return v)) s next h = cc
body_next (Err x) s next h = cc

pub body_ends : (e : Result Exit Stop) (s : State) (next : Does Exit) → goes_on e ≡ false → after_body (e, s) next ≡ (past_break e, s)
body_ends (Ok Normal) s next h = cc
body_ends (Ok Break) s next h = refl
body_ends (Ok Continue) s next h = cc
body_ends (Ok (Return v)) s next h = refl
body_ends (Err x) s next h = refl

-- ---- turns

module _ (test : Does Value) (body after : Does Exit) where
  -- a turn and what comes behind it, where there may be so many
  abbrev pub turn : ℕ → Does Exit
  turn zero s = (Err Going, s)
  turn (suc n) s = after_body (body (tick s)) (λ s1. then_step (after s1) (turns n test body after))

  pub turns_is : (n : ℕ) (s : State) → turns n test body after s ≡ bind (test s) (λ v. by_truth v (turn n) (gives Normal))
  turns_is zero s = refl
  turns_is (suc n) s = refl

  pub turn_zero : (n : ℕ) (s : State) → n ≡ 0 → turn n s ≡ (Err Going, s)
  turn_zero zero s e = refl
  turn_zero (suc n) s e = absurd (omega arith)

  pub turn_next : (n : ℕ) (s : State) → 0 < n → turn n s ≡ after_body (body (tick s)) (λ s1. then_step (after s1) (turns (n - 1) test body after))
  turn_next zero s h = absurd (omega arith)
  turn_next (suc n) s h = let m : suc n - 1 ≡ n = omega arith in rw m refl

module _ (test : Does Value) (body : Does Exit) where
  pub after_zero : (n : ℕ) (s : State) → n ≡ 0 → turns_after n test body s ≡ (Err Going, s)
  after_zero zero s e = refl
  after_zero (suc n) s e = absurd (omega arith)

  pub after_next : (n : ℕ) (s : State) → 0 < n
      → turns_after n test body s ≡ after_body (body (tick s)) (λ s1. bind (test s1) (λ v. by_truth v (turns_after (n - 1) test body) (gives Normal)))
  after_next zero s h = absurd (omega arith)
  after_next (suc n) s h = let m : suc n - 1 ≡ n = omega arith in rw m refl

pub ruleset turn_laws = (turns_is, turn_zero, turn_next, body_next, body_ends, step_next, step_ends)

pub ruleset later_laws = (after_zero, after_next, body_next, body_ends)

-- ---- breaks

pub broken_is : (e : Result Exit Stop) (s : State) → broken (e, s) ≡ (past_break e, s)
broken_is (Ok Normal) s = refl
broken_is (Ok Break) s = refl
broken_is (Ok Continue) s = refl
broken_is (Ok (Return v)) s = refl
broken_is (Err x) s = refl

-- a switch, by the end of the sections that are chosen
pub broken_by : (end given : Result Exit Stop) (s : State) (all some : Ran Exit) → all ≡ some → (end, s) ≡ some → given ≡ past_break end → (given, s) ≡ broken all
broken_by end given s all some e f g = ap (λ (x : Result Exit Stop). (x, s)) g ∙ sym (broken_is end s) ∙ ap broken (f ∙ sym e)
