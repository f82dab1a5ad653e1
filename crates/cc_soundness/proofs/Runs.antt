-- Starts, steps and runs go well.
use Rattle.std.proofs.Common.{◌≡◌, ◌≢◌, ℕ, zero, suc, ◌-◌, ◌≤◌, List, [], ◌∷◌, ◌++◌, length, map, refl, sym, ap, ◌∙◌, subst, arith}
use Rattle.std.specs.Prelude.{Some, nat_lt, slice_get}
use Rattle.std.proofs.lemmas.Option.{same_Some}
use Rattle.cc_base.specs.Cells.{arguments_cells, arguments_pass}
use Rattle.cc_base.specs.declared.running.Ending.TheVariants as ending
use Rattle.cc_base.specs.declared.running.Limits.{Limits}
use Rattle.cc_core.specs.SourceRun.{ended, going, wrong}
use Rattle.cc_execution.specs.declared.operation.FundamentalType.{FundamentalType}
use Rattle.cc_execution.specs.declared.executable.Executable.{Executable}
use Rattle.cc_execution.specs.declared.executable.Method.{Method}
use Rattle.cc_execution.specs.Operations.{loaded, names_in}
use Rattle.cc_execution.specs.State.{State, Next, Goes, Ends, Stuck, then_go}
use Rattle.cc_execution.specs.Step.{placed_at, operations_of, placed_in, zeros_of, act, step}
use Rattle.cc_execution.specs.Run.{first_world, with_variables, begin_entry, begin, start, runs, seen, run_of}
use Rattle.cc_verify.specs.declared.environment.Environment.{Environment}
use Rattle.cc_verify.specs.Transitions.{transition_of}
use Rattle.cc_verify.specs.Rules.{Given}
use Rattle.cc_soundness.specs.Kinds.{kind}
use Rattle.cc_soundness.specs.Typed.{KeepsRules}
use Rattle.cc_soundness.specs.States.{HaveTypes, RunFor, IsTypedState, GoesWell}
use Rattle.cc_soundness.proofs.Values.{types_length, zeros_are}
use Rattle.cc_soundness.proofs.Nesting.{beginning}
use Rattle.cc_soundness.proofs.Matching.{matches}
use Rattle.cc_soundness.proofs.Frames.{Held, go_ok}
use Rattle.cc_soundness.proofs.Steps.{given_ok, either_ok, by_transition}

module _ (x : Executable) (e : Environment) (tables : ℕ → Given) (good : KeepsRules x e tables) where
  pub step_ok : (frames : ℕ) (s : State) → IsTypedState x tables s → GoesWell x tables (step x frames s)
  step_ok frames s g =
      let k = (good.methods s.now.method g.method g.is).covered s.now.at g.stack g.has in
      let held : Held x tables s.now.method s.callers s.world g.method = record { is = g.is; variables = g.frame.variables; objects = g.objects; waits = g.callers } in
      let placed : placed_in x s.now.method s.now.at ≡ Some k.placed = ap (λ o. placed_at (operations_of o) s.now.at) g.is ∙ k.is in
      given_ok (GoesWell x tables) (placed_in x s.now.method s.now.at) (λ p. act x frames p.operation p.next s) k.placed placed
      (by_transition x tables e good frames s g.method held g.frame.pending g.stack g.values k.placed k.is (transition_of k.instruction) k.placed.operation k.behind
      (matches (names_in x g.method) k.placed.next k.instruction k.placed.operation k.resolves)
      (record { leaves_it = k.leaves; stores = k.stores; fall = k.fall; jump_to = k.jump_to; stays = k.stays }))

  runs_on : (frames n : ℕ) → ((s : State) → IsTypedState x tables s → GoesWell x tables (runs x frames n s)) → (o : Next) → GoesWell x tables o → GoesWell x tables (then_go o (runs x frames n))
  runs_on frames n known (Goes s) g = known s g
  runs_on frames n known (Ends ending w) g = tt
  runs_on frames n known Stuck g = g

  pub runs_ok : (frames n : ℕ) (s : State) → IsTypedState x tables s → GoesWell x tables (runs x frames n s)
  runs_ok frames zero s g = g
  runs_ok frames (suc n) s g = runs_on frames n (runs_ok frames n) (step x frames s) (step_ok frames s g)

  entry_ok : (cells : ℕ) (input : List ℕ) (types : List FundamentalType) → loaded good.entry.method.parameters ≡ types → types ≡ [] → GoesWell x tables (begin_entry types good.entry.method.locals x.entry (first_world cells input))
  entry_ok cells input [] same none =
      let m = good.entry.method in
      let ok = good.methods x.entry m good.entry.is in
      let w = with_variables (zeros_of m.locals) (first_world cells input) in
      let held : Held x tables x.entry [] w m = record {
        is = good.entry.is;
        variables = subst (λ l. HaveTypes 0 (map kind (l ++ m.locals)) (zeros_of m.locals)) (sym same) (zeros_are 0 m.locals);
        objects = tt;
        waits = (refl, good.entry.result);
      } in
      go_ok x tables x.entry [] w m held 0 [] [] [] ok.start tt (subst (λ l. RunFor m.clauses (tables x.entry) 0 l []) (sym (beginning m.clauses ok.outside)) tt)
  entry_ok cells input (t ∷ types) same none = let bad : t ∷ types ≡ [] = none in cc

  begins_ok : (frames cells : ℕ) (input : List ℕ) → GoesWell x tables (begin x frames (first_world cells input))
  begins_ok frames cells input =
      either_ok (GoesWell x tables) (nat_lt 0 frames) _ (Ends ending.DepthLimit (first_world cells input))
      (given_ok (GoesWell x tables) (slice_get x.methods x.entry) (λ method. begin_entry (loaded method.parameters) method.locals x.entry (first_world cells input)) good.entry.method good.entry.is
      (entry_ok cells input (loaded good.entry.method.parameters) refl good.entry.parameters))
      tt

  pub start_ok : (limits : Limits) (input : List ℕ) (arguments : List (List ℕ)) → GoesWell x tables (start x limits input arguments)
  start_ok limits input arguments =
      either_ok (GoesWell x tables) (arguments_pass limits.cells arguments) (Ends ending.HeapLimit (first_world limits.cells input)) (begin x limits.frames (first_world (limits.cells - arguments_cells arguments) input)) tt
      (begins_ok limits.frames (limits.cells - arguments_cells arguments) input)

  seen_ok : (o : Next) → GoesWell x tables o → (seen o).finish ≢ wrong
  seen_ok (Goes s) g = λ h. let bad : going ≡ wrong = h in cc
  seen_ok (Ends ending w) g = λ h. let bad : ended ending ≡ wrong = h in cc
  seen_ok Stuck g = absurd g

  pub never_stuck : (input : List ℕ) (arguments : List (List ℕ)) (limits : Limits) (n : ℕ) → (run_of x input arguments limits n).finish ≢ wrong
  never_stuck input arguments limits n =
      seen_ok (then_go (start x limits input arguments) (runs x limits.frames n)) (runs_on limits.frames n (runs_ok limits.frames n) (start x limits input arguments) (start_ok limits input arguments))

  pub small_ok : (s : State) → IsTypedState x tables s → (m : Method) → slice_get x.methods s.now.method ≡ Some m → length s.now.stack ≤ m.max_stack
  small_ok s g m is =
      let k = (good.methods s.now.method g.method g.is).covered s.now.at g.stack g.has in
      let size = types_length (length s.world.heap) g.stack s.now.stack g.values in
      let same : g.method ≡ m = same_Some g.method m (sym g.is ∙ is) in
      subst (λ z. length s.now.stack ≤ z.max_stack) same (omega (arith, size, k.small))
