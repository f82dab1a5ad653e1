-- Whole runs: what the program means, the module does, and what the module does, the program means.
use Rattle.std.proofs.Common.{◌≡◌, ◌≢◌, ℕ, zero, suc, ◌+◌, ◌-◌, ◌<◌, ◌≤◌, ◌⊎◌, inl, inr, List, [], ◌∷◌, Bool, true, false, Option, Some, None, refl, sym, ap, ◌∙◌, subst, arith, slice_get, nat_lt, lt-ltb, le-ltb}
use Rattle.std.specs.Prelude.{Ok, Err, if◌then◌else◌, ⊤}
use Rattle.std.specs.Int.{w32, cast_signed}
use Rattle.std.proofs.lemmas.Bool.{cases_lt}
use Rattle.cc_base.specs.Cells.{arguments_cells, arguments_pass}
use Rattle.cc_base.specs.declared.identifiers.MethodId.{MethodId}
use Rattle.cc_base.specs.declared.running.Ending.{Ending}
use Rattle.cc_base.specs.declared.running.Ending.TheVariants as ending
use Rattle.cc_base.specs.declared.running.Limits.{Limits}
use Rattle.cc_core.specs.declared.state.State.{State}
use Rattle.cc_core.specs.declared.state.Stop.{Stop}
use Rattle.cc_core.specs.declared.state.Stop.TheVariants.{Throws, HeapLimit, DepthLimit, Going, Wrong}
use Rattle.cc_core.specs.declared.types.ClassInfo.{ClassInfo}
use Rattle.cc_core.specs.declared.world.Object.{Object}
use Rattle.cc_core.specs.declared.world.Value.{Value}
use Rattle.cc_core.specs.declared.world.World.{World}
use Rattle.cc_core.specs.Run.{Ran}
use Rattle.cc_core.specs.SourceRun as source
use Rattle.cc_core.specs.SourceRun.{Finish, Meaning, ended, going, wrong, finish_of, meaning_of, name_of, message_of, start}
use Rattle.cc_core.specs.Typed.{IsCallable}
use Rattle.cc_core.specs.Types as type
use Rattle.cc_core.specs.Types.{BareType}
use Rattle.cc_code.specs.declared.tokens.Tokens.{Tokens}
use Rattle.cc_execution.specs.declared.executable.Executable.{Executable}
use Rattle.cc_execution.specs.declared.executable.Method.{Method}
use Rattle.cc_execution.specs.declared.operation.FundamentalType.{FundamentalType}
use Rattle.cc_execution.specs.declared.operation.FundamentalType.TheVariants as to
use Rattle.cc_execution.specs.declared.operation.Operation.TheVariants as does
use Rattle.cc_execution.specs.Operations.{loaded}
use Rattle.cc_execution.specs.Run as machine
use Rattle.cc_execution.specs.Run.{Seen, seen, seen_in, runs, first_world, with_variables, begin_entry, begin}
use Rattle.cc_execution.specs.State as states
use Rattle.cc_execution.specs.State.{Next, Goes, Ends, Stuck, then_go}
use Rattle.cc_execution.specs.Step.{given, act, step, return_result, return_last}
use Rattle.cc_region.specs.declared.tree.RegionFunction.{RegionFunction}
use Rattle.cc_region.specs.declared.tree.RegionParts.{RegionParts}
use Rattle.cc_region.specs.Frames.{calls_with}
use Rattle.cc_simulation.specs.Behaves.{budget, Same, meant, setting, CompiledEntry, IsCompiled, ProgramsBehave}
use Rattle.cc_simulation.specs.Compiled.{site_of, CompiledProgram}
use Rattle.cc_simulation.specs.Sites.{Setting, Site, StandsAt, go, state_at}
use Rattle.cc_simulation.specs.Stretches.{Stands, Got, least, stopped}
use Rattle.cc_simulation.specs.Values.{IsOf}
use Rattle.cc_simulation.proofs.Calls.{calls_stand}
use Rattle.cc_simulation.proofs.Ranges.{stored_is}
use Rattle.cc_simulation.proofs.Steps.{did, stays, more, at_same, meant_same, onward}
use Rattle.cc_simulation.proofs.Throws.{ended_right}

-- ---- how runs stand

abbrev HasEnded : Finish → Type 0
HasEnded (ended e) = ⊤
HasEnded going = ⊥
HasEnded wrong = ⊥

abbrev IsGoing : Finish → Type 0
IsGoing (ended e) = ⊥
IsGoing going = ⊤
IsGoing wrong = ⊥

aborted_going : (name message : Option (List ℕ)) → source.aborted name message ≡ going → ⊥
aborted_going None message e = subst IsGoing (sym e) tt
aborted_going (Some name) None e = subst IsGoing (sym e) tt
aborted_going (Some name) (Some message) e = subst IsGoing (sym e) tt

uncaught_going : (classes : List ClassInfo) (o : Option Object) → source.uncaught classes o ≡ going → ⊥
uncaught_going classes None e = subst IsGoing (sym e) tt
uncaught_going classes (Some object) e = aborted_going (name_of (slice_get classes (object.«class»).0)) (message_of (name_of (slice_get classes (object.«class»).0)) object.holds) e

-- a run goes on where the bound of turns was reached, and else it has made as few steps as it may
going_least : (classes : List ClassInfo) (n steps : ℕ) (e : Stop) (s : State) → least n e ≤ steps → stopped classes e s ≡ going → n ≤ steps
going_least classes n steps (Throws at) s l e = absurd (uncaught_going classes (slice_get s.world.heap at) e)
going_least classes n steps HeapLimit s l e = absurd (subst IsGoing (sym e) tt)
going_least classes n steps DepthLimit s l e = absurd (subst IsGoing (sym e) tt)
going_least classes n steps Going s l e = l
going_least classes n steps Wrong s l e = absurd (subst IsGoing (sym e) tt)

-- ---- what a program means, and what the machine does from a place

record Follows (x : Executable) (frames n : ℕ) (from : Next) (means : Meaning) : Type 0 where
  steps : ℕ
  fewest : means.finish ≡ going → n ≤ steps
  most : steps ≤ budget means.work
  same : Same means (seen (then_go from (runs x frames steps)))
  right : means.finish ≢ wrong

same_of : (means : Meaning) (got : Seen) (w : World) (finish : Finish) → means.output ≡ w.output → means.events ≡ w.events → means.finish ≡ finish → got ≡ seen_in w finish → Same means got
same_of means got w finish o v f e = record { output = o ∙ sym (ap (λ (s : Seen). s.output) e); events = v ∙ sym (ap (λ (s : Seen). s.events) e); finish = f ∙ sym (ap (λ (s : Seen). s.finish) e) }

module _ (x : Executable) (classes : List ClassInfo) (frames n : ℕ) where
  -- where `main` returns, the entry does, and the run ends
  abbrev ends_main : Value → World → Next
  ends_main v w = return_last (v ∷ []) w

  follows_r : (from : Next) (ran : Ran Value) → Got x classes frames n 64 from ends_main (λ v w. IsOf type.I32 v) 0 ran → Follows x frames n from (meaning_of classes ran)
  follows_r from (Ok v, s) m =
      let z = m.1.by 0 in
      let k = m.0.0 in
      let finish : finish_of classes (Ok v, s) ≡ ended (ending.Returned (cast_signed w32 k)) = ap (λ (v : Value). finish_of classes (Ok v, s)) m.0.2 in
      let last : return_last (v ∷ []) s.world ≡ Ends (ending.Returned (cast_signed w32 k)) s.world = ap (λ (v : Value). return_last (v ∷ []) s.world) m.0.2 in
      record {
        steps = z.0;
        fewest = λ e. absurd (subst IsGoing (sym e ∙ finish) tt);
        most = omega (arith, z.2);
        same = same_of (meaning_of classes (Ok v, s)) (seen (then_go from (runs x frames z.0))) s.world (ended (ending.Returned (cast_signed w32 k))) refl refl finish
            (ap seen z.3 ∙ ap (λ (o : Next). seen (then_go o (runs x frames 0))) last);
        right = λ e. ended_right (ending.Returned (cast_signed w32 k)) (sym finish ∙ e);
      }
  follows_r from (Err e, s) m =
      record {
        steps = m.1.steps;
        fewest = λ g. going_least classes n m.1.steps e s m.1.least g;
        most = omega (arith, m.1.most);
        same = same_of (meaning_of classes (Err e, s)) (seen (then_go from (runs x frames m.1.steps))) s.world (stopped classes e s) refl refl refl m.1.same;
        right = m.0;
      }

  follows_from : (from : Next) (ran : Ran Value) → Stands x classes frames n 64 from ends_main (λ v w. IsOf type.I32 v) 0 ran → Follows x frames n from (meaning_of classes ran)
  follows_from from ran m = follows_r from ran m.got

-- ---- the entry

module _ (x : Executable) (classes : List ClassInfo) (functions : List RegionFunction) (tokens : Tokens) (main : MethodId) (frames n : ℕ) (program : CompiledProgram (setting x classes frames n) functions tokens) (entry : CompiledEntry (setting x classes frames n) tokens main) where
  abbrev set : Setting
  set = setting x classes frames n

  abbrev site : Site
  site = site_of set x.entry entry.method [] [] []

  -- the entry begins
  begin_is : (w : World) → nat_lt 0 frames ≡ true → begin x frames w ≡ go site 0 [] (with_variables [] w)
  begin_is w room =
      ap (λ (b : Bool). if b then given (slice_get x.methods x.entry) (λ method. begin_entry (loaded method.parameters) method.locals x.entry w) else Ends ending.DepthLimit w) room
      ∙ ap (λ (o : Option Method). given o (λ method. begin_entry (loaded method.parameters) method.locals x.entry w)) entry.is
      ∙ ap (λ (types : List (Option FundamentalType)). begin_entry (loaded types) entry.method.locals x.entry w) entry.parameters
      ∙ ap (λ (types : List FundamentalType). begin_entry [] types x.entry w) entry.locals

  returns_last : (v : Value) (w : World) → IsOf type.I32 v → act x frames does.Return 6 (state_at site 5 (v ∷ []) w) ≡ return_last (v ∷ []) w
  returns_last v w vi =
      ap (λ (o : Option Method). given o (λ m. return_result x m.result (v ∷ []) (state_at site 5 (v ∷ []) w))) entry.is
      ∙ ap (λ (r : Option FundamentalType). return_result x r (v ∷ []) (state_at site 5 (v ∷ []) w)) entry.result
      ∙ ap (λ (o : Option Value). given o (λ r. return_last (r ∷ []) w)) (stored_is to.I4 v vi)

  abbrev RunAt : ℕ → Next → Ran Value → Type 0
  RunAt b from ran = StandsAt set b from (λ (v : Value) (w : World). return_last (v ∷ []) w) (λ (v : Value) (w : World). IsOf type.I32 v) 0 ran

  entry_stands : (d cells : ℕ) (input : List ℕ) → d + 1 ≡ frames → IsCallable classes main [] type.I32 → RunAt 64 (go site 0 [] (first_world cells input)) (calls_with classes functions n d main [] (start cells input))
  entry_stands d cells input room callable =
      onward x classes frames (λ (ran : Ran Value). ran) (λ e s. refl) 1 63
      (calls_stand set functions tokens program d x.entry entry.method [] [] [] room main [] type.I32 callable 0 [] [] (start cells input) ((entry.code [] []).0, tt) tt (tt, refl))
      (λ v s1 g. did x classes frames (state_at site 5 (v ∷ []) s1.world) (record { at = 5; operation = does.Return; next = 6 }) (entry.code [] []).1.0
      (at_same x classes frames (returns_last v s1.world g.0) (stays x classes frames {b = 62} v s1 g.0 refl)))

  begin_stands : (cells : ℕ) (input : List ℕ) → IsCallable classes main [] type.I32 → RunAt 64 (begin x frames (first_world cells input)) (calls_with classes functions n (frames - 1) main [] (start cells input))
  begin_stands cells input callable = by (cases_lt 0 frames)
    where
      by : (0 < frames) ⊎ (frames ≤ 0) → RunAt 64 (begin x frames (first_world cells input)) (calls_with classes functions n (frames - 1) main [] (start cells input))
      by (inl some) = at_same x classes frames (begin_is (first_world cells input) (lt-ltb 0 frames some)) (entry_stands (frames - 1) cells input (omega (arith, some)) callable)
      by (inr none) =
          let z : frames - 1 ≡ 0 = omega (arith, none) in
          meant_same x classes frames (ap (λ (d : ℕ). calls_with classes functions n d main [] (start cells input)) z)
          (at_same x classes frames
          (ap (λ (b : Bool). if b then given (slice_get x.methods x.entry) (λ method. begin_entry (loaded method.parameters) method.locals x.entry (first_world cells input)) else Ends ending.DepthLimit (first_world cells input)) (le-ltb 0 frames none))
          (record { got = ((λ q. ended_right ending.DepthLimit q), record { steps = 0; least = omega arith; most = omega arith; same = refl }) }))

-- one run of the program within n turns
program_follows : (program : RegionParts) (x : Executable) (tokens : Tokens) → IsCompiled program x tokens → (input : List ℕ) (arguments : List (List ℕ)) (limits : Limits) (n : ℕ)
    → Follows x limits.frames n (machine.start x limits input arguments) (meant program input arguments limits n)
program_follows program x tokens is input arguments limits n = by (arguments_pass limits.cells arguments)
  where
    by : (b : Bool) → Follows x limits.frames n
        (if b then Ends ending.HeapLimit (first_world limits.cells input) else begin x limits.frames (first_world (limits.cells - arguments_cells arguments) input))
        (if b then record { output = []; events = []; work = 0; finish = ended ending.HeapLimit }
        else meaning_of program.classes (calls_with program.classes program.functions n (limits.frames - 1) program.main [] (start (limits.cells - arguments_cells arguments) input)))
    by true = record { steps = 0; fewest = λ e. absurd (subst IsGoing (sym e) tt); most = omega arith; same = record { output = refl; events = refl; finish = refl }; right = λ e. ended_right ending.HeapLimit e }
    by false = follows_from x program.classes limits.frames n (begin x limits.frames (first_world (limits.cells - arguments_cells arguments) input)) (calls_with program.classes program.functions n (limits.frames - 1) program.main [] (start (limits.cells - arguments_cells arguments) input))
        (begin_stands x program.classes program.functions tokens program.main limits.frames n (is.functions limits.frames n) (is.entry limits.frames n) (limits.cells - arguments_cells arguments) input is.main)

-- ---- both directions

abbrev IsDone : Next → Type 0
IsDone (Goes s) = ⊥
IsDone (Ends e w) = ⊤
IsDone Stuck = ⊤

done_by : (o : Next) → ((seen o).finish ≡ going → ⊥) → IsDone o
done_by (Goes s) h = h refl
done_by (Ends e w) h = tt
done_by Stuck h = tt

-- more instructions change nothing of a run that is over
more_steps : (x : Executable) (frames m m1 : ℕ) → m ≤ m1 → (s : states.State) (o : Next) → IsDone o → runs x frames m s ≡ o → runs x frames m1 s ≡ o
more_steps x frames zero m1 le s o over e = absurd (subst IsDone (sym e) over)
more_steps x frames (suc m) zero le s o over e = absurd (omega (arith, le))
more_steps x frames (suc m) (suc m1) le s o over e = on (λ s e. more_steps x frames m m1 (omega (arith, le)) s o over e) (step x frames s) e
  where
    on : ((s : states.State) → runs x frames m s ≡ o → runs x frames m1 s ≡ o) → (st : Next) → then_go st (runs x frames m) ≡ o → then_go st (runs x frames m1) ≡ o
    on ih (Goes s) e = ih s e
    on ih (Ends ending w) e = e
    on ih Stuck e = e

more_from : (x : Executable) (frames m m1 : ℕ) → m ≤ m1 → (from : Next) → IsDone (then_go from (runs x frames m)) → then_go from (runs x frames m1) ≡ then_go from (runs x frames m)
more_from x frames m m1 le (Goes s) over = more_steps x frames m m1 le s (runs x frames m s) over refl
more_from x frames m m1 le (Ends e w) over = refl
more_from x frames m m1 le Stuck over = refl

module _ (x : Executable) (frames : ℕ) (from : Next) (means : ℕ → Meaning) (follows : (n : ℕ) → Follows x frames n from (means n)) where
  abbrev after : ℕ → Next
  after m = then_go from (runs x frames m)

  -- where the machine is over after m instructions, the program is within m turns, and both stand alike
  same_end : (m : ℕ) → ((seen (after m)).finish ≡ going → ⊥) → after (follows m).steps ≡ after m
  same_end m over = by (cases_lt m (follows m).steps)
    where
      done : IsDone (after m)
      done = done_by (after m) over

      not_going : (means m).finish ≡ going → ⊥
      not_going e = over (ap (λ (o : Next). (seen o).finish) (sym (more_from x frames m (follows m).steps ((follows m).fewest e) from done)) ∙ sym (follows m).same.finish ∙ e)

      by : (m < (follows m).steps) ⊎ ((follows m).steps ≤ m) → after (follows m).steps ≡ after m
      by (inl less) = more_from x frames m (follows m).steps (omega (arith, less)) from done
      by (inr more) = sym (more_from x frames (follows m).steps m more from (done_by (after (follows m).steps) (λ e. not_going ((follows m).same.finish ∙ e))))

  ends_only : (m : ℕ) (e : Ending) → (seen (after m)).finish ≡ ended e → (n : ℕ) × Same (means n) (seen (after m))
  ends_only m e h = (m, subst (λ (o : Next). Same (means m) (seen o)) (same_end m (λ g. subst IsGoing (sym g ∙ h) tt)) (follows m).same)

  never_stuck : (m : ℕ) → (seen (after m)).finish ≢ wrong
  never_stuck m h = (follows m).right ((follows m).same.finish ∙ ap (λ (o : Next). (seen o).finish) (same_end m (λ g. subst IsGoing (sym g ∙ h) tt)) ∙ h)

-- the machine does what a program means, and no more
pub programs_behave : ProgramsBehave
programs_behave program x tokens is input arguments limits =
    let from = machine.start x limits input arguments in
    let means = meant program input arguments limits in
    let f = program_follows program x tokens is input arguments limits in
    record {
      ends = λ n e h. ((f n).steps, (f n).most, (f n).same);
      goes_on = λ n h. ((f n).steps, (f n).fewest h, (f n).most, (f n).same);
      ends_only = λ m e h. ends_only x limits.frames from means f m e h;
      never_stuck = λ m h. never_stuck x limits.frames from means f m h;
      never_wrong = λ n h. (f n).right h;
    }
