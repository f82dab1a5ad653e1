-- With more turns a statement that was going goes on, and any other is the same.
use Rattle.std.proofs.Common.{◌≡◌, ℕ, zero, suc, ◌≤◌, List, [], ◌∷◌, Bool, true, false, Option, Some, None, Ok, Err, refl, sym, subst, arith}
use Rattle.std.specs.Prelude.{if◌then◌else◌}
use Rattle.cc_core.specs.declared.state.Exit.{Exit}
use Rattle.cc_core.specs.declared.state.Exit.TheVariants as exit
use Rattle.cc_core.specs.declared.state.State.{State}
use Rattle.cc_core.specs.declared.state.Stop.{Stop}
use Rattle.cc_core.specs.declared.state.Stop.TheVariants.{Throws, HeapLimit, DepthLimit, Going, Wrong}
use Rattle.cc_core.specs.declared.tree.LoopKind.{LoopKind}
use Rattle.cc_core.specs.declared.tree.LoopKind.TheVariants.{TestFirst, BodyFirst}
use Rattle.cc_core.specs.declared.tree.SwitchLabel.{SwitchLabel}
use Rattle.cc_core.specs.declared.tree.SwitchLabel.TheVariants.{Case, Default}
use Rattle.cc_core.specs.declared.types.ClassInfo.{ClassInfo}
use Rattle.cc_core.specs.declared.world.Value.{Value}
use Rattle.cc_core.specs.Types.{BareType}
use Rattle.cc_core.specs.Term.{Term}
use Rattle.cc_core.specs.Step as step
use Rattle.cc_core.specs.Step.{Step, Steps, Sections}
use Rattle.cc_core.specs.Numbers.{zero_of}
use Rattle.cc_core.specs.Run.{Ran, Does, Calls, stops, tick}
use Rattle.cc_core.specs.Value.{value_of}
use Rattle.cc_core.specs.Leave.{then_step, then_in_scope, after_body, turns, turns_after, broken, is_case, find_case, has_default, by_case}
use Rattle.cc_core.specs.Outcome.{initial_value, do_if, return_if, loop, outcome_of, scope_of, matching, defaulting, following}
use Rattle.cc_core.proofs.Grown.{Grown, same_grown, grown_on, tick_grown, given_grows, write_local_grows}
use Rattle.cc_core.proofs.Follows.{Continues, Follows, same_follows, bind_follows, tick_follows, truth_follows, gives_follows, wrong_follows, CallsFollow, value_follows}

-- A combinator of a run and of what comes behind it that hands on why a run stops.
module _ (shape : Ran Exit → Does Exit → Ran Exit)
    (grown : (r : Ran Exit) (k : Does Exit) → ((s : State) → Grown s (k s).1) → Grown r.1 (shape r k).1)
    (exits : (e : Exit) (s : State) (k k' : Does Exit) → Follows k k' → Continues (shape (Ok e, s) k) (shape (Ok e, s) k'))
    (same : (e : Stop) (s : State) (k : Does Exit) → shape (Err e, s) k ≡ (Err e, s)) where
  stopped : (e : Stop) (s : State) (r' : Ran Exit) (k k' : Does Exit) → (Err e, s) ≡ r' → Continues {A = Exit} (Err e, s) (Err e, s) → Continues (shape (Err e, s) k) (shape r' k')
  stopped e s r' k k' p h = subst (λ r. Continues (shape (Err e, s) k) (shape r k')) p (subst (λ r. Continues r (shape (Err e, s) k')) (sym (same e s k)) (subst (λ r. Continues {A = Exit} (Err e, s) r) (sym (same e s k')) h))

  shape_continues : (r r' : Ran Exit) (k k' : Does Exit) → Continues r r' → Follows k k' → Continues (shape r k) (shape r' k')
  shape_continues (Ok a, s) r' k k' e h = subst (λ r. Continues (shape (Ok a, s) k) (shape r k')) e (exits a s k k' h)
  shape_continues (Err Going, s) r' k k' e h = subst (λ r. Continues r (shape r' k')) (sym (same Going s k)) (grown_on e (grown r' k' h.grows))
  shape_continues (Err (Throws at), s) r' k k' e h = stopped (Throws at) s r' k k' e refl
  shape_continues (Err HeapLimit, s) r' k k' e h = stopped HeapLimit s r' k k' e refl
  shape_continues (Err DepthLimit, s) r' k k' e h = stopped DepthLimit s r' k k' e refl
  shape_continues (Err Wrong, s) r' k k' e h = stopped Wrong s r' k k' e refl

  shape_follows : {f g k k' : Does Exit} → Follows f g → Follows k k' → Follows (λ s. shape (f s) k) (λ s. shape (g s) k')
  shape_follows {f} {g} {k} {k'} a h = record {
    by = λ s. shape_continues (f s) (g s) k k' (a.by s) h;
    grows = λ s. grown_on (a.grows s) (grown (g s) k' h.grows);
  }

-- the next statement
step_grown : (r : Ran Exit) (k : Does Exit) → ((s : State) → Grown s (k s).1) → Grown r.1 (then_step r k).1
step_grown (Ok exit.Normal, s) k h = h s
step_grown (Ok exit.Break, s) k h = same_grown s
step_grown (Ok exit.Continue, s) k h = same_grown s
step_grown (Ok (exit.Return v), s) k h = same_grown s
step_grown (Err e, s) k h = same_grown s

step_exits : (e : Exit) (s : State) (k k' : Does Exit) → Follows k k' → Continues (then_step (Ok e, s) k) (then_step (Ok e, s) k')
step_exits exit.Normal s k k' h = h.by s
step_exits exit.Break s k k' h = refl
step_exits exit.Continue s k k' h = refl
step_exits (exit.Return v) s k k' h = refl

pub step_follows : {f g k k' : Does Exit} → Follows f g → Follows k k' → Follows (λ s. then_step (f s) k) (λ s. then_step (g s) k')
step_follows = shape_follows then_step step_grown step_exits (λ e s k. refl)

-- the next statement of a scope without constructions
scope_grown : (r : Ran Exit) (k : Does Exit) → ((s : State) → Grown s (k s).1) → Grown r.1 (then_in_scope [] r k).1
scope_grown (Ok exit.Normal, s) k h = h s
scope_grown (Ok exit.Break, s) k h = same_grown s
scope_grown (Ok exit.Continue, s) k h = same_grown s
scope_grown (Ok (exit.Return v), s) k h = same_grown s
scope_grown (Err e, s) k h = same_grown s

scope_exits : (e : Exit) (s : State) (k k' : Does Exit) → Follows k k' → Continues (then_in_scope [] (Ok e, s) k) (then_in_scope [] (Ok e, s) k')
scope_exits exit.Normal s k k' h = h.by s
scope_exits exit.Break s k k' h = refl
scope_exits exit.Continue s k k' h = refl
scope_exits (exit.Return v) s k k' h = refl

pub in_scope_follows : {f g k k' : Does Exit} → Follows f g → Follows k k' → Follows (λ s. then_in_scope [] (f s) k) (λ s. then_in_scope [] (g s) k')
in_scope_follows = shape_follows (then_in_scope []) scope_grown scope_exits (λ e s k. refl)

-- the next turn of a loop
body_grown : (r : Ran Exit) (k : Does Exit) → ((s : State) → Grown s (k s).1) → Grown r.1 (after_body r k).1
body_grown (Ok exit.Normal, s) k h = h s
body_grown (Ok exit.Break, s) k h = same_grown s
body_grown (Ok exit.Continue, s) k h = h s
body_grown (Ok (exit.Return v), s) k h = same_grown s
body_grown (Err e, s) k h = same_grown s

body_exits : (e : Exit) (s : State) (k k' : Does Exit) → Follows k k' → Continues (after_body (Ok e, s) k) (after_body (Ok e, s) k')
body_exits exit.Normal s k k' h = h.by s
body_exits exit.Break s k k' h = refl
body_exits exit.Continue s k k' h = h.by s
body_exits (exit.Return v) s k k' h = refl

pub body_follows : {f g k k' : Does Exit} → Follows f g → Follows k k' → Follows (λ s. after_body (f s) k) (λ s. after_body (g s) k')
body_follows = shape_follows after_body body_grown body_exits (λ e s k. refl)

-- the end of a switch
broken_grown : (r : Ran Exit) → Grown r.1 (broken r).1
broken_grown (Ok exit.Normal, s) = same_grown s
broken_grown (Ok exit.Break, s) = same_grown s
broken_grown (Ok exit.Continue, s) = same_grown s
broken_grown (Ok (exit.Return v), s) = same_grown s
broken_grown (Err e, s) = same_grown s

broken_exits : (e : Exit) (s : State) → Continues (broken (Ok e, s)) (broken (Ok e, s))
broken_exits exit.Normal s = refl
broken_exits exit.Break s = refl
broken_exits exit.Continue s = refl
broken_exits (exit.Return v) s = refl

pub broken_follows : {f g : Does Exit} → Follows f g → Follows (λ s. broken (f s)) (λ s. broken (g s))
broken_follows {f} {g} a = record {
  by = (shape_follows (λ r k. broken r) (λ r k h. broken_grown r) (λ e s k k' h. broken_exits e s) (λ e s k. refl) a a).by;
  grows = λ s. grown_on (a.grows s) (broken_grown (g s));
}

-- ---- loops

pub going_follows : {A : Type 0} {g : Does A} → ((s : State) → Grown s (g s).1) → Follows (stops Going) g
going_follows h = record { by = h; grows = h }

module _ (test test' : Does Value) (body body' after after' : Does Exit) (t : Follows test test') (b : Follows body body') (a : Follows after after') where
  pub turns_follow : (m n : ℕ) → m ≤ n → Follows (turns m test body after) (turns n test' body' after')
  turns_follow zero zero le = bind_follows t (λ v. truth_follows v (going_follows same_grown) gives_follows)
  turns_follow zero (suc n) le =
      bind_follows t (λ v. truth_follows v (going_follows (tick_follows (body_follows b (step_follows a (turns_follow zero n (omega arith))))).grows) gives_follows)
  turns_follow (suc m) zero le = absurd (omega arith)
  turns_follow (suc m) (suc n) le =
      bind_follows t (λ v. truth_follows v (tick_follows (body_follows b (step_follows a (turns_follow m n (omega arith))))) gives_follows)

  pub turns_after_follow : (m n : ℕ) → m ≤ n → Follows (turns_after m test body) (turns_after n test' body')
  turns_after_follow zero zero le = going_follows same_grown
  turns_after_follow zero (suc n) le =
      going_follows (tick_follows (body_follows b (bind_follows t (λ v. truth_follows v (turns_after_follow zero n (omega arith)) gives_follows)))).grows
  turns_after_follow (suc m) zero le = absurd (omega arith)
  turns_after_follow (suc m) (suc n) le =
      tick_follows (body_follows b (bind_follows t (λ v. truth_follows v (turns_after_follow m n (omega arith)) gives_follows)))

  pub loop_follows : (kind : LoopKind) (m n : ℕ) → m ≤ n → Follows (loop m kind test body after) (loop n kind test' body' after')
  loop_follows TestFirst m n le = turns_follow m n le
  loop_follows BodyFirst m n le = turns_after_follow m n le

-- ---- switches

find_grown : (v : Value) (labels : List SwitchLabel) (s : State) → Grown s (find_case v labels s).1
find_grown v [] s = same_grown s
find_grown v (Default ∷ labels) s = find_grown v labels s
find_grown v (Case n ∷ labels) s = one (is_case v n) (find_grown v labels (tick s))
  where
    one : (b : Bool) → Grown (tick s) (find_case v labels (tick s)).1 → Grown s (if◌then◌else◌ {A = Bool × State} b (true, tick s) (find_case v labels (tick s))).1
    one true g = tick_grown s
    one false g = grown_on (tick_grown s) g

by_case_follows : {a a' b b' : Does Exit} (r : Bool × State) → Follows a a' → Follows b b' → Continues (by_case r a b) (by_case r a' b')
by_case_follows (true, s) f g = f.by s
by_case_follows (false, s) f g = g.by s

by_case_grown : (a' b' : Does Exit) (r : Bool × State) → ((s : State) → Grown s (a' s).1) → ((s : State) → Grown s (b' s).1) → Grown r.1 (by_case r a' b').1
by_case_grown a' b' (true, s) f g = f s
by_case_grown a' b' (false, s) f g = g s

pub case_follows : {a a' b b' : Does Exit} (v : Value) (labels : List SwitchLabel) → Follows a a' → Follows b b' → Follows (λ s. by_case (find_case v labels s) a b) (λ s. by_case (find_case v labels s) a' b')
case_follows v labels f g = record {
  by = λ s. by_case_follows (find_case v labels s) f g;
  grows = λ s. grown_on (find_grown v labels s) (by_case_grown _ _ (find_case v labels s) f.grows g.grows);
}

pub default_follows : {a a' b b' : Does Exit} (c : Bool) → Follows a a' → Follows b b' → Follows (λ s. if c then a s else b s) (λ s. if c then a' s else b' s)
default_follows true f g = record { by = f.by; grows = f.grows }
default_follows false f g = record { by = g.by; grows = g.grows }

-- ---- statements

module _ (w : List ClassInfo) (k k' : Calls) (h : CallsFollow k k') (m n : ℕ) (le : m ≤ n) where
  initial_follows : (type : BareType) (e : Option Term) → Follows (initial_value w k type e) (initial_value w k' type e)
  initial_follows type None = same_follows (given_grows (zero_of type))
  initial_follows type (Some e) = value_follows w k k' h e

  do_if_follows : (e : Option Term) → Follows (do_if w k e) (do_if w k' e)
  do_if_follows None = gives_follows
  do_if_follows (Some e) = bind_follows (value_follows w k k' h e) (λ v. gives_follows)

  return_if_follows : (e : Option Term) → Follows (return_if w k e) (return_if w k' e)
  return_if_follows None = gives_follows
  return_if_follows (Some e) = bind_follows (value_follows w k k' h e) (λ v. gives_follows)

  mutual
    pub outcome_follows : (a : Step) → Follows (outcome_of w k m a) (outcome_of w k' n a)
    outcome_follows (step.Block steps) = tick_follows (scope_follows steps)
    outcome_follows (step.Do e) = bind_follows (tick_follows (value_follows w k k' h e)) (λ v. gives_follows)
    outcome_follows (step.Declare x type e) =
        bind_follows (tick_follows (initial_follows type e)) (λ v. bind_follows (same_follows (write_local_grows x v)) (λ done. gives_follows))
    outcome_follows (step.If c a b) =
        bind_follows (tick_follows (value_follows w k k' h c)) (λ v. truth_follows v (outcome_follows a) (outcome_follows b))
    outcome_follows (step.Loop kind c after body) =
        tick_follows (loop_follows (value_of w k c) (value_of w k' c) (outcome_of w k m body) (outcome_of w k' n body) (do_if w k after) (do_if w k' after)
        (value_follows w k k' h c) (outcome_follows body) (do_if_follows after) kind m n le)
    outcome_follows (step.Switch x e sections) =
        bind_follows (tick_follows (value_follows w k k' h e)) (λ v. bind_follows (same_follows (write_local_grows x v)) (λ u.
        broken_follows (matching_follows sections u (defaulting_follows sections))))
    outcome_follows step.Break = tick_follows gives_follows
    outcome_follows step.Continue = tick_follows gives_follows
    outcome_follows (step.Return e) = tick_follows (return_if_follows e)
    outcome_follows _ = tick_follows wrong_follows

    pub scope_follows : (steps : Steps) → Follows (scope_of w k m [] steps) (scope_of w k' n [] steps)
    scope_follows step.no_steps = gives_follows
    scope_follows (step.next_step a rest) = in_scope_follows (outcome_follows a) (scope_follows rest)

    pub matching_follows : {other other' : Does Exit} (l : Sections) (v : Value) → Follows other other' → Follows (matching w k m l v other) (matching w k' n l v other')
    matching_follows step.no_sections v f = record { by = f.by; grows = f.grows }
    matching_follows (step.next_section labels body rest) v f =
        case_follows v labels (step_follows (scope_follows body) (following_follows rest)) (matching_follows rest v f)

    pub defaulting_follows : (l : Sections) → Follows (defaulting w k m l) (defaulting w k' n l)
    defaulting_follows step.no_sections = gives_follows
    defaulting_follows (step.next_section labels body rest) =
        default_follows (has_default labels) (step_follows (scope_follows body) (following_follows rest)) (defaulting_follows rest)

    pub following_follows : (l : Sections) → Follows (following w k m l) (following w k' n l)
    following_follows step.no_sections = gives_follows
    following_follows (step.next_section labels body rest) = step_follows (scope_follows body) (following_follows rest)
