-- A run of straight code ends as the source's run where it has as many steps as that has instructions, and is cut short before its end where it has fewer.
use Rattle.std.proofs.Common.{◌≡◌, ◌⊎◌, ◌≤◌, ◌<◌, ℕ, suc, List, [], ◌++◌, length, refl, sym, ap, subst, ◌∙◌, append_assoc, arith, inl, inr}
use Rattle.std.specs.Prelude.{Bool, true, false, Option, Some, None, nat_lt, reverse, if◌then◌else◌}
use Rattle.std.proofs.lemmas.List.{append-nil}
use Rattle.std.specs.List.{flat_map}
use Rattle.std.specs.Int.{w32, cast_signed}
use Rattle.cc_base.specs.Cells.{arguments_pass}
use Rattle.cc_base.specs.declared.running.Limits.{Limits}
use Rattle.cc_base.specs.declared.running.Ending.{Ending}
use Rattle.cc_base.specs.declared.running.Ending.TheVariants as ending
use Rattle.cc_core.specs.StraightSource.{Source, source_operations}
use Rattle.cc_core.specs.StraightMeaning.{Ran, value_of, line_of, run_of}
use Rattle.cc_cil.specs.declared.body.Body.{Body}
use Rattle.cc_machine.specs.declared.machine.Execution.{Execution}
use Rattle.cc_machine.specs.declared.machine.Phase.{Phase}
use Rattle.cc_machine.specs.declared.machine.Phase.TheVariants as phase
use Rattle.cc_machine.specs.declared.machine.Stop.{Stop}
use Rattle.cc_machine.specs.declared.machine.Stop.TheVariants as stop
use Rattle.cc_machine.specs.Machine.{state_in, state_of, Begins, IsStop}
use Rattle.cc_straight.specs.Straight.{RunsAs}
use Rattle.cc_straight.specs.Executing.{IsEnding, run_length}
use Rattle.cc_straight.proofs.Executes.{source_runs}
use Rattle.cc_cil.specs.declared.action.Action.{Action}
use Rattle.cc_cil.specs.Steps.{State, Running, Ended, Does, Step, Runs, pushes, adds, subtracts, multiplies, writes, returns, does, stays, steps}
use Rattle.cc_machine.proofs.OneWay.{step_one}

abbrev ending_of : State → Ending → Ending
ending_of (Running at stack out) e = e
ending_of (Ended f out) e = f

abbrev output_of : State → List ℕ
output_of (Running at stack out) = out
output_of (Ended f out) = out

pub no_step : {code : List ℕ} {e : Ending} {out : List ℕ} {t : State} → Step code (Ended e out) t → ⊥
no_step h = elim h [ ]

-- two runs from one state to an end end alike
pub ends_alike : {code : List ℕ} {n m : ℕ} {s : State} {e f : Ending} {o p : List ℕ} → Runs code n s (Ended e o) → Runs code m s (Ended f p) → Ended e o ≡ Ended f p
ends_alike stays stays = refl
ends_alike stays (steps h q) = absurd (no_step h)
ends_alike (steps h p) stays = absurd (no_step h)
ends_alike {code} {e = e} {o = o} (steps h p) (steps {n = k} {u = u} g q) = ends_alike p (subst (λ t. Runs code k t u) (sym (step_one h g)) q)

-- and are as long as each other
pub same_length : {code : List ℕ} {n m : ℕ} {s : State} {e f : Ending} {o p : List ℕ} → Runs code n s (Ended e o) → Runs code m s (Ended f p) → n ≡ m
same_length stays stays = refl
same_length stays (steps h q) = absurd (no_step h)
same_length (steps h p) stays = absurd (no_step h)
same_length {code} (steps h p) (steps {n = k} {u = u} g q) = ap (λ n. suc n) (same_length p (subst (λ t. Runs code k t u) (sym (step_one h g)) q))

abbrev IsRunning : State → Type 0
IsRunning (Running at stack out) = Unit {0}
IsRunning (Ended e out) = ⊥

-- a run to an end goes on from each state that goes on
pub rest_of : {code : List ℕ} {n m : ℕ} {s t : State} {e : Ending} {o : List ℕ} → Runs code m s (Ended e o) → Runs code n s t → IsRunning t → (n < m) × ((k : ℕ) × Runs code k t (Ended e o))
rest_of stays stays r = absurd r
rest_of (steps {n = k} h p) stays r = (omega arith, (suc k, steps h p))
rest_of stays (steps g q) r = absurd (no_step g)
rest_of {code} {t = t} (steps h p) (steps {n = k} g q) r =
    let rest = rest_of p (subst (λ s. Runs code k s t) (sym (step_one h g)) q) r in
    let less = rest.0 in
    (omega (arith, less), rest.1)

-- what is printed stays
printed_by : {a : Action} {at : ℕ} {s o : List ℕ} {n : State} → Does a at s o n → (more : List ℕ) × (output_of n ≡ o ++ more)
printed_by {o = o} pushes = ([], sym (append-nil o))
printed_by {o = o} adds = ([], sym (append-nil o))
printed_by {o = o} subtracts = ([], sym (append-nil o))
printed_by {o = o} multiplies = ([], sym (append-nil o))
printed_by (writes {n = n}) = (line_of n, refl)
printed_by {o = o} returns = ([], sym (append-nil o))

printed_at : {code : List ℕ} {s t : State} → Step code s t → (more : List ℕ) × (output_of t ≡ output_of s ++ more)
printed_at (does i a stands is d) = printed_by d

pub printed_on : {code : List ℕ} {n : ℕ} {s t : State} → Runs code n s t → (more : List ℕ) × (output_of t ≡ output_of s ++ more)
printed_on {s = s} stays = ([], sym (append-nil (output_of s)))
printed_on {s = s} (steps h p) =
    let first = printed_at h in
    let later = printed_on p in
    (first.0 ++ later.0, later.1 ∙ ap (λ l. l ++ later.0) first.1 ∙ append_assoc (output_of s) first.0 later.0)

abbrev begun_by : Bool → Bool → State
begun_by h d = if h then Ended ending.HeapLimit [] else if d then Ended ending.DepthLimit [] else Running 0 [] []

abbrev length_by : Bool → Bool → ℕ → ℕ
length_by h d n = if h then 0 else if d then 0 else n

abbrev under_by : Bool → Bool → Ran → Ran
under_by h d ran = if h then record { output = []; ending = ending.HeapLimit } else if d then record { output = []; ending = ending.DepthLimit } else ran

pub ended_as : (h d : Bool) {code : List ℕ} {n k : ℕ} {e f : Ending} {out o : List ℕ} → Runs code n (begun_by h d) (Ended e out) → Runs code k (Running 0 [] []) (Ended f o)
    → (e ≡ (under_by h d (record { output = o; ending = f })).ending) × (out ≡ (under_by h d (record { output = o; ending = f })).output)
ended_as true d {e = e} p q = let same = ends_alike p stays in (ap (λ s. ending_of s e) same, ap output_of same)
ended_as false true {e = e} p q = let same = ends_alike p stays in (ap (λ s. ending_of s e) same, ap output_of same)
ended_as false false {e = e} p q = let same = ends_alike p q in (ap (λ s. ending_of s e) same, ap output_of same)

pub long_as : (h d : Bool) {code : List ℕ} {n k : ℕ} {e f : Ending} {out o : List ℕ} → Runs code n (begun_by h d) (Ended e out) → Runs code k (Running 0 [] []) (Ended f o) → n ≡ length_by h d k
long_as true d p q = same_length p stays
long_as false true p q = same_length p stays
long_as false false p q = same_length p q

pub cut_short : (h d : Bool) {code : List ℕ} {n k : ℕ} {t : State} {f : Ending} {o : List ℕ} → Runs code n (begun_by h d) t → Runs code k (Running 0 [] []) (Ended f o) → IsRunning t
    → (n < length_by h d k) × ((more : List ℕ) × ((under_by h d (record { output = o; ending = f })).output ≡ output_of t ++ more))
cut_short true d stays q r = absurd r
cut_short true d (steps g p) q r = absurd (no_step g)
cut_short false true stays q r = absurd r
cut_short false true (steps g p) q r = absurd (no_step g)
cut_short false false p q r = let rest = rest_of q p r in (rest.0, printed_on rest.1.1)

running : (p : Phase) (at : ℕ) (stack out : List ℕ) → p ≡ phase.Running → IsRunning (state_in p at stack out)
running p at stack out e = subst (λ q. IsRunning (state_in q at stack out)) (sym e) tt

shown : (p : Phase) (at : ℕ) (stack out : List ℕ) → p ≡ phase.Running → output_of (state_in p at stack out) ≡ out
shown p at stack out e = ap (λ q. output_of (state_in q at stack out)) e

module _ (code : Body) (source : Source) (arguments : List (List ℕ)) (limits : Limits) (count : ℕ) (before after : Execution) (found : Option Ending) (out : List ℕ)
    (begins : Begins code arguments limits before) (runs : RunsAs code source) (printed : out ≡ after.output.items) where
  abbrev hot : Bool
  hot = arguments_pass limits.cells arguments

  abbrev deep : Bool
  deep = nat_lt limits.frames 2

  abbrev ran : Ran
  ran = run_of source arguments limits

  abbrev size : ℕ
  size = run_length source arguments limits

  whole : Runs code.code (length (source_operations source)) (Running 0 [] []) (Ended (ending.Returned (cast_signed w32 (value_of source.result))) (flat_map (λ t. line_of (value_of t)) source.lines))
  whole = source_runs code source runs

  moved : {n : ℕ} {t : State} → Runs before.code.code n (state_of before) t → Runs code.code n (begun_by hot deep) t
  moved {n} {t} p = subst (λ c. Runs c.code n (begun_by hot deep) t) begins.code_is (subst (λ s. Runs before.code.code n s t) begins.state p)

  abbrev Within : Type 0
  Within = ((size ≤ count) × ((found ≡ Some ran.ending) × (out ≡ ran.output))) ⊎ ((count < size) × ((found ≡ None) × ((more : List ℕ) × (ran.output ≡ out ++ more))))

  pub does_within : (answer : Stop) → IsStop count before after answer → IsEnding answer found → Within
  does_within (stop.Ended e) (n, few, p, is) f =
      let run = moved (subst (λ t. Runs before.code.code n (state_of before) t) is p) in
      let same = ended_as hot deep run whole in
      let long : n ≡ size = long_as hot deep run whole in
      inl (subst (λ (m : ℕ). m ≤ count) long few, (f ∙ ap (λ x. Some x) same.0, printed ∙ same.1))
  does_within stop.StepLimit (p, r) f =
      let going = running after.phase after.at (reverse after.stack.items) after.output.items r in
      let cut = cut_short hot deep (moved p) whole going in
      let out_is = shown after.phase after.at (reverse after.stack.items) after.output.items r ∙ sym printed in
      inr (cut.0, (f, (cut.1.0, cut.1.1 ∙ ap (λ l. l ++ cut.1.0) out_is)))
  does_within stop.Memory h f = absurd f
