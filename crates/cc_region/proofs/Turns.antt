-- With more turns a region that was going goes on, and any other is the same.
use Rattle.std.proofs.Common.{◌≡◌, ℕ, zero, suc, ◌≤◌, List, [], ◌∷◌, Bool, true, false, Option, Some, None, Ok, Err, refl, sym, subst, arith}
use Rattle.std.specs.Prelude.{if◌then◌else◌}
use Rattle.cc_core.specs.declared.state.State.{State}
use Rattle.cc_core.specs.declared.state.Stop.{Stop}
use Rattle.cc_core.specs.declared.state.Stop.TheVariants.{Throws, HeapLimit, DepthLimit, Going, Wrong}
use Rattle.cc_core.specs.declared.tree.LoopKind.{LoopKind}
use Rattle.cc_core.specs.declared.tree.LoopKind.TheVariants.{TestFirst, BodyFirst}
use Rattle.cc_core.specs.declared.tree.SwitchLabel.{SwitchLabel}
use Rattle.cc_core.specs.declared.tree.SwitchLabel.TheVariants.{Case, Default}
use Rattle.cc_core.specs.declared.types.ClassInfo.{ClassInfo}
use Rattle.cc_core.specs.declared.world.Value.{Value}
use Rattle.cc_core.specs.Types.{BareType}
use Rattle.cc_core.specs.Term.{Term}
use Rattle.cc_core.specs.Numbers.{zero_of}
use Rattle.cc_core.specs.Run.{Ran, Does, Calls, stops, tick}
use Rattle.cc_core.specs.Value.{value_of}
use Rattle.cc_core.specs.Leave.{is_case, find_case, has_default}
use Rattle.cc_core.specs.Outcome.{initial_value}
use Rattle.cc_region.proofs.Grown.{Grown, same_grown, grown_on, tick_grown, given_grows, write_local_grows}
use Rattle.cc_region.proofs.Follows.{Continues, Follows, same_follows, bind_follows, tick_follows, truth_follows, gives_follows, wrong_follows, CallsFollow, value_follows}
use Rattle.cc_region.specs.Region as region
use Rattle.cc_region.specs.Region.{Region, Regions, Sections}
use Rattle.cc_region.specs.Leave as way
use Rattle.cc_region.specs.Leave.{Way, then_next, left_block, after_body, turns, turns_after, resumed, rethrown, guarded, guarded_from_throws, by_case}
use Rattle.cc_region.specs.Outcome.{do_if, return_if, loop, outcome_of, in_order, matching, defaulting, following}

-- A combinator of a run and of what comes behind it that hands on each reason to stop but an exception.
module _ (shape : Ran Way → Does Way → Ran Way)
    (grown : (r : Ran Way) (k : Does Way) → ((s : State) → Grown s (k s).1) → Grown r.1 (shape r k).1)
    (ways : (e : Way) (s : State) (k k' : Does Way) → Follows k k' → Continues (shape (Ok e, s) k) (shape (Ok e, s) k'))
    (throws : (at : ℕ) (s : State) (k k' : Does Way) → Follows k k' → Continues (shape (Err (Throws at), s) k) (shape (Err (Throws at), s) k'))
    (heap : (s : State) (k : Does Way) → shape (Err HeapLimit, s) k ≡ (Err HeapLimit, s))
    (depth : (s : State) (k : Does Way) → shape (Err DepthLimit, s) k ≡ (Err DepthLimit, s))
    (going : (s : State) (k : Does Way) → shape (Err Going, s) k ≡ (Err Going, s))
    (wrong : (s : State) (k : Does Way) → shape (Err Wrong, s) k ≡ (Err Wrong, s)) where
  stopped : (e : Stop) (s : State) (r' : Ran Way) (k k' : Does Way) → (Err e, s) ≡ r' → ((k : Does Way) → shape (Err e, s) k ≡ (Err e, s)) → Continues {A = Way} (Err e, s) (Err e, s) → Continues (shape (Err e, s) k) (shape r' k')
  stopped e s r' k k' p same h = subst (λ r. Continues (shape (Err e, s) k) (shape r k')) p (subst (λ r. Continues r (shape (Err e, s) k')) (sym (same k)) (subst (λ r. Continues {A = Way} (Err e, s) r) (sym (same k')) h))

  shape_continues : (r r' : Ran Way) (k k' : Does Way) → Continues r r' → Follows k k' → Continues (shape r k) (shape r' k')
  shape_continues (Ok a, s) r' k k' e h = subst (λ r. Continues (shape (Ok a, s) k) (shape r k')) e (ways a s k k' h)
  shape_continues (Err Going, s) r' k k' e h = subst (λ r. Continues r (shape r' k')) (sym (going s k)) (grown_on e (grown r' k' h.grows))
  shape_continues (Err (Throws at), s) r' k k' e h = subst (λ r. Continues (shape (Err (Throws at), s) k) (shape r k')) e (throws at s k k' h)
  shape_continues (Err HeapLimit, s) r' k k' e h = stopped HeapLimit s r' k k' e (heap s) refl
  shape_continues (Err DepthLimit, s) r' k k' e h = stopped DepthLimit s r' k k' e (depth s) refl
  shape_continues (Err Wrong, s) r' k k' e h = stopped Wrong s r' k k' e (wrong s) refl

  shape_follows : {f g k k' : Does Way} → Follows f g → Follows k k' → Follows (λ s. shape (f s) k) (λ s. shape (g s) k')
  shape_follows {f} {g} {k} {k'} a h = record {
    by = λ s. shape_continues (f s) (g s) k k' (a.by s) h;
    grows = λ s. grown_on (a.grows s) (grown (g s) k' h.grows);
  }

-- the next region
next_grown : (r : Ran Way) (k : Does Way) → ((s : State) → Grown s (k s).1) → Grown r.1 (then_next r k).1
next_grown (Ok way.Next, s) k h = h s
next_grown (Ok (way.Break number), s) k h = same_grown s
next_grown (Ok (way.Continue number), s) k h = same_grown s
next_grown (Ok (way.Return v), s) k h = same_grown s
next_grown (Err e, s) k h = same_grown s

next_ways : (e : Way) (s : State) (k k' : Does Way) → Follows k k' → Continues (then_next (Ok e, s) k) (then_next (Ok e, s) k')
next_ways way.Next s k k' h = h.by s
next_ways (way.Break number) s k k' h = refl
next_ways (way.Continue number) s k k' h = refl
next_ways (way.Return v) s k k' h = refl

next_follows : {f g k k' : Does Way} → Follows f g → Follows k k' → Follows (λ s. then_next (f s) k) (λ s. then_next (g s) k')
next_follows = shape_follows then_next next_grown next_ways (λ at s k k' h. refl) (λ s k. refl) (λ s k. refl) (λ s k. refl) (λ s k. refl)

-- the next turn of a Loop
body_grown : (r : Ran Way) (k : Does Way) → ((s : State) → Grown s (k s).1) → Grown r.1 (after_body r k).1
body_grown (Ok way.Next, s) k h = h s
body_grown (Ok (way.Break zero), s) k h = same_grown s
body_grown (Ok (way.Break (suc number)), s) k h = same_grown s
body_grown (Ok (way.Continue zero), s) k h = h s
body_grown (Ok (way.Continue (suc number)), s) k h = same_grown s
body_grown (Ok (way.Return v), s) k h = same_grown s
body_grown (Err e, s) k h = same_grown s

body_ways : (e : Way) (s : State) (k k' : Does Way) → Follows k k' → Continues (after_body (Ok e, s) k) (after_body (Ok e, s) k')
body_ways way.Next s k k' h = h.by s
body_ways (way.Break zero) s k k' h = refl
body_ways (way.Break (suc number)) s k k' h = refl
body_ways (way.Continue zero) s k k' h = h.by s
body_ways (way.Continue (suc number)) s k k' h = refl
body_ways (way.Return v) s k k' h = refl

body_follows : {f g k k' : Does Way} → Follows f g → Follows k k' → Follows (λ s. after_body (f s) k) (λ s. after_body (g s) k')
body_follows = shape_follows after_body body_grown body_ways (λ at s k k' h. refl) (λ s k. refl) (λ s k. refl) (λ s k. refl) (λ s k. refl)

-- the end of a Block
block_grown : (r : Ran Way) → Grown r.1 (left_block r).1
block_grown (Ok way.Next, s) = same_grown s
block_grown (Ok (way.Break zero), s) = same_grown s
block_grown (Ok (way.Break (suc number)), s) = same_grown s
block_grown (Ok (way.Continue zero), s) = same_grown s
block_grown (Ok (way.Continue (suc number)), s) = same_grown s
block_grown (Ok (way.Return v), s) = same_grown s
block_grown (Err e, s) = same_grown s

block_ways : (e : Way) (s : State) → Continues (left_block (Ok e, s)) (left_block (Ok e, s))
block_ways way.Next s = refl
block_ways (way.Break zero) s = refl
block_ways (way.Break (suc number)) s = refl
block_ways (way.Continue zero) s = refl
block_ways (way.Continue (suc number)) s = refl
block_ways (way.Return v) s = refl

block_follows : {f g : Does Way} → Follows f g → Follows (λ s. left_block (f s)) (λ s. left_block (g s))
block_follows {f} {g} a = record {
  by = (shape_follows (λ r k. left_block r) (λ r k h. block_grown r) (λ e s k k' h. block_ways e s) (λ at s k k' h. refl) (λ s k. refl) (λ s k. refl) (λ s k. refl) (λ s k. refl) a a).by;
  grows = λ s. grown_on (a.grows s) (block_grown (g s));
}

-- ---- cleanups

resumed_grown : (before : Way) (r : Ran Way) → Grown r.1 (resumed before r).1
resumed_grown before (Ok way.Next, s) = same_grown s
resumed_grown before (Ok (way.Break number), s) = same_grown s
resumed_grown before (Ok (way.Continue number), s) = same_grown s
resumed_grown before (Ok (way.Return v), s) = same_grown s
resumed_grown before (Err e, s) = same_grown s

resumed_continues : (before : Way) (r r' : Ran Way) → Continues r r' → Continues (resumed before r) (resumed before r')
resumed_continues before (Ok way.Next, s) r' h = subst (λ r. Continues (resumed before (Ok way.Next, s)) (resumed before r)) h refl
resumed_continues before (Ok (way.Break number), s) r' h = subst (λ r. Continues (resumed before (Ok (way.Break number), s)) (resumed before r)) h refl
resumed_continues before (Ok (way.Continue number), s) r' h = subst (λ r. Continues (resumed before (Ok (way.Continue number), s)) (resumed before r)) h refl
resumed_continues before (Ok (way.Return v), s) r' h = subst (λ r. Continues (resumed before (Ok (way.Return v), s)) (resumed before r)) h refl
resumed_continues before (Err Going, s) r' h = grown_on h (resumed_grown before r')
resumed_continues before (Err (Throws at), s) r' h = subst (λ r. Continues (resumed before (Err (Throws at), s)) (resumed before r)) h refl
resumed_continues before (Err HeapLimit, s) r' h = subst (λ r. Continues (resumed before (Err HeapLimit, s)) (resumed before r)) h refl
resumed_continues before (Err DepthLimit, s) r' h = subst (λ r. Continues (resumed before (Err DepthLimit, s)) (resumed before r)) h refl
resumed_continues before (Err Wrong, s) r' h = subst (λ r. Continues (resumed before (Err Wrong, s)) (resumed before r)) h refl

rethrown_grown : (at : ℕ) (r : Ran Way) → Grown r.1 (rethrown at r).1
rethrown_grown at (Ok way.Next, s) = same_grown s
rethrown_grown at (Ok (way.Break number), s) = same_grown s
rethrown_grown at (Ok (way.Continue number), s) = same_grown s
rethrown_grown at (Ok (way.Return v), s) = same_grown s
rethrown_grown at (Err e, s) = same_grown s

rethrown_continues : (at : ℕ) (r r' : Ran Way) → Continues r r' → Continues (rethrown at r) (rethrown at r')
rethrown_continues at (Ok way.Next, s) r' h = subst (λ r. Continues (rethrown at (Ok way.Next, s)) (rethrown at r)) h refl
rethrown_continues at (Ok (way.Break number), s) r' h = subst (λ r. Continues (rethrown at (Ok (way.Break number), s)) (rethrown at r)) h refl
rethrown_continues at (Ok (way.Continue number), s) r' h = subst (λ r. Continues (rethrown at (Ok (way.Continue number), s)) (rethrown at r)) h refl
rethrown_continues at (Ok (way.Return v), s) r' h = subst (λ r. Continues (rethrown at (Ok (way.Return v), s)) (rethrown at r)) h refl
rethrown_continues at (Err Going, s) r' h = grown_on h (rethrown_grown at r')
rethrown_continues at (Err (Throws e), s) r' h = subst (λ r. Continues (rethrown at (Err (Throws e), s)) (rethrown at r)) h refl
rethrown_continues at (Err HeapLimit, s) r' h = subst (λ r. Continues (rethrown at (Err HeapLimit, s)) (rethrown at r)) h refl
rethrown_continues at (Err DepthLimit, s) r' h = subst (λ r. Continues (rethrown at (Err DepthLimit, s)) (rethrown at r)) h refl
rethrown_continues at (Err Wrong, s) r' h = subst (λ r. Continues (rethrown at (Err Wrong, s)) (rethrown at r)) h refl

guarded_grown : (r : Ran Way) (k : Does Way) → ((s : State) → Grown s (k s).1) → Grown r.1 (guarded r k).1
guarded_grown (Ok e, s) k h = grown_on (h s) (resumed_grown e (k s))
guarded_grown (Err (Throws at), s) k h = grown_on (h s) (rethrown_grown at (k s))
guarded_grown (Err HeapLimit, s) k h = same_grown s
guarded_grown (Err DepthLimit, s) k h = same_grown s
guarded_grown (Err Going, s) k h = same_grown s
guarded_grown (Err Wrong, s) k h = same_grown s

guarded_follows : {f g k k' : Does Way} → Follows f g → Follows k k' → Follows (λ s. guarded (f s) k) (λ s. guarded (g s) k')
guarded_follows = shape_follows guarded guarded_grown
    (λ e s k k' h. resumed_continues e (k s) (k' s) (h.by s)) (λ at s k k' h. rethrown_continues at (k s) (k' s) (h.by s)) (λ s k. refl) (λ s k. refl) (λ s k. refl) (λ s k. refl)

from_throws_grown : (r : Ran Way) (k : Does Way) → ((s : State) → Grown s (k s).1) → Grown r.1 (guarded_from_throws r k).1
from_throws_grown (Ok e, s) k h = same_grown s
from_throws_grown (Err (Throws at), s) k h = grown_on (h s) (rethrown_grown at (k s))
from_throws_grown (Err HeapLimit, s) k h = same_grown s
from_throws_grown (Err DepthLimit, s) k h = same_grown s
from_throws_grown (Err Going, s) k h = same_grown s
from_throws_grown (Err Wrong, s) k h = same_grown s

from_throws_follows : {f g k k' : Does Way} → Follows f g → Follows k k' → Follows (λ s. guarded_from_throws (f s) k) (λ s. guarded_from_throws (g s) k')
from_throws_follows = shape_follows guarded_from_throws from_throws_grown
    (λ e s k k' h. refl) (λ at s k k' h. rethrown_continues at (k s) (k' s) (h.by s)) (λ s k. refl) (λ s k. refl) (λ s k. refl) (λ s k. refl)

-- ---- loops

going_follows : {A : Type 0} {g : Does A} → ((s : State) → Grown s (g s).1) → Follows (stops Going) g
going_follows h = record { by = h; grows = h }

module _ (test test' : Does Value) (body body' after after' : Does Way) (t : Follows test test') (b : Follows body body') (a : Follows after after') where
  turns_follow : (m n : ℕ) → m ≤ n → Follows (turns m test body after) (turns n test' body' after')
  turns_follow zero zero le = bind_follows t (λ v. truth_follows v (going_follows same_grown) gives_follows)
  turns_follow zero (suc n) le =
      bind_follows t (λ v. truth_follows v (going_follows (tick_follows (body_follows b (next_follows a (turns_follow zero n (omega arith))))).grows) gives_follows)
  turns_follow (suc m) zero le = absurd (omega arith)
  turns_follow (suc m) (suc n) le =
      bind_follows t (λ v. truth_follows v (tick_follows (body_follows b (next_follows a (turns_follow m n (omega arith))))) gives_follows)

  turns_after_follow : (m n : ℕ) → m ≤ n → Follows (turns_after m test body) (turns_after n test' body')
  turns_after_follow zero zero le = going_follows same_grown
  turns_after_follow zero (suc n) le =
      going_follows (tick_follows (body_follows b (bind_follows t (λ v. truth_follows v (turns_after_follow zero n (omega arith)) gives_follows)))).grows
  turns_after_follow (suc m) zero le = absurd (omega arith)
  turns_after_follow (suc m) (suc n) le =
      tick_follows (body_follows b (bind_follows t (λ v. truth_follows v (turns_after_follow m n (omega arith)) gives_follows)))

  pub loop_follows : (kind : LoopKind) (m n : ℕ) → m ≤ n → Follows (loop m kind test body after) (loop n kind test' body' after')
  loop_follows TestFirst m n le = turns_follow m n le
  loop_follows BodyFirst m n le = turns_after_follow m n le

-- ---- switches

find_grown : (v : Value) (labels : List SwitchLabel) (s : State) → Grown s (find_case v labels s).1
find_grown v [] s = same_grown s
find_grown v (Default ∷ labels) s = find_grown v labels s
find_grown v (Case n ∷ labels) s = one (is_case v n) (find_grown v labels (tick s))
  where
    one : (b : Bool) → Grown (tick s) (find_case v labels (tick s)).1 → Grown s (if◌then◌else◌ {A = Bool × State} b (true, tick s) (find_case v labels (tick s))).1
    one true g = tick_grown s
    one false g = grown_on (tick_grown s) g

by_case_follows : {a a' b b' : Does Way} (r : Bool × State) → Follows a a' → Follows b b' → Continues (by_case r a b) (by_case r a' b')
by_case_follows (true, s) f g = f.by s
by_case_follows (false, s) f g = g.by s

by_case_grown : (a' b' : Does Way) (r : Bool × State) → ((s : State) → Grown s (a' s).1) → ((s : State) → Grown s (b' s).1) → Grown r.1 (by_case r a' b').1
by_case_grown a' b' (true, s) f g = f s
by_case_grown a' b' (false, s) f g = g s

case_follows : {a a' b b' : Does Way} (v : Value) (labels : List SwitchLabel) → Follows a a' → Follows b b' → Follows (λ s. by_case (find_case v labels s) a b) (λ s. by_case (find_case v labels s) a' b')
case_follows v labels f g = record {
  by = λ s. by_case_follows (find_case v labels s) f g;
  grows = λ s. grown_on (find_grown v labels s) (by_case_grown _ _ (find_case v labels s) f.grows g.grows);
}

default_follows : {a a' b b' : Does Way} (c : Bool) → Follows a a' → Follows b b' → Follows (λ s. if c then a s else b s) (λ s. if c then a' s else b' s)
default_follows true f g = record { by = f.by; grows = f.grows }
default_follows false f g = record { by = g.by; grows = g.grows }

-- ---- regions

module _ (w : List ClassInfo) (k k' : Calls) (h : CallsFollow k k') (m n : ℕ) (le : m ≤ n) where
  initial_follows : (type : BareType) (e : Option Term) → Follows (initial_value w k type e) (initial_value w k' type e)
  initial_follows type None = same_follows (given_grows (zero_of type))
  initial_follows type (Some e) = value_follows w k k' h e

  do_if_follows : (e : Option Term) → Follows (do_if w k e) (do_if w k' e)
  do_if_follows None = gives_follows
  do_if_follows (Some e) = bind_follows (value_follows w k k' h e) (λ v. gives_follows)

  return_if_follows : (e : Option Term) → Follows (return_if w k e) (return_if w k' e)
  return_if_follows None = gives_follows
  return_if_follows (Some e) = bind_follows (value_follows w k k' h e) (λ v. gives_follows)

  mutual
    pub outcome_follows : (a : Region) → Follows (outcome_of w k m a) (outcome_of w k' n a)
    outcome_follows (region.Sequence regions) = tick_follows (in_order_follows regions)
    outcome_follows (region.Do e) = bind_follows (tick_follows (value_follows w k k' h e)) (λ v. gives_follows)
    outcome_follows (region.Declare x type e) =
        bind_follows (tick_follows (initial_follows type e)) (λ v. bind_follows (same_follows (write_local_grows x v)) (λ done. gives_follows))
    outcome_follows (region.If c a b) =
        bind_follows (tick_follows (value_follows w k k' h c)) (λ v. truth_follows v (outcome_follows a) (outcome_follows b))
    outcome_follows (region.Block body) = block_follows (tick_follows (outcome_follows body))
    outcome_follows (region.Switch x e sections) =
        bind_follows (tick_follows (value_follows w k k' h e)) (λ v. bind_follows (same_follows (write_local_grows x v)) (λ u.
        block_follows (matching_follows sections u (defaulting_follows sections))))
    outcome_follows (region.Loop kind c after body) =
        tick_follows (loop_follows (value_of w k c) (value_of w k' c) (outcome_of w k m body) (outcome_of w k' n body) (do_if w k after) (do_if w k' after)
        (value_follows w k k' h c) (outcome_follows body) (do_if_follows after) kind m n le)
    outcome_follows (region.Guard body cleanup) = guarded_follows (tick_follows (outcome_follows body)) (outcome_follows cleanup)
    outcome_follows (region.OnThrow body cleanup) = from_throws_follows (tick_follows (outcome_follows body)) (outcome_follows cleanup)
    outcome_follows (region.Finally body last) = guarded_follows (tick_follows (outcome_follows body)) (outcome_follows last)
    outcome_follows (region.Break number) = tick_follows gives_follows
    outcome_follows (region.Continue number) = tick_follows gives_follows
    outcome_follows (region.Return e) = tick_follows (return_if_follows e)
    outcome_follows _ = tick_follows wrong_follows

    in_order_follows : (l : Regions) → Follows (in_order w k m l) (in_order w k' n l)
    in_order_follows region.no_regions = gives_follows
    in_order_follows (region.next_region a rest) = next_follows (outcome_follows a) (in_order_follows rest)

    matching_follows : {other other' : Does Way} (l : Sections) (v : Value) → Follows other other' → Follows (matching w k m l v other) (matching w k' n l v other')
    matching_follows region.no_sections v f = record { by = f.by; grows = f.grows }
    matching_follows (region.next_section labels body rest) v f =
        case_follows v labels (next_follows (in_order_follows body) (following_follows rest)) (matching_follows rest v f)

    defaulting_follows : (l : Sections) → Follows (defaulting w k m l) (defaulting w k' n l)
    defaulting_follows region.no_sections = gives_follows
    defaulting_follows (region.next_section labels body rest) =
        default_follows (has_default labels) (next_follows (in_order_follows body) (following_follows rest)) (defaulting_follows rest)

    following_follows : (l : Sections) → Follows (following w k m l) (following w k' n l)
    following_follows region.no_sections = gives_follows
    following_follows (region.next_section labels body rest) = next_follows (in_order_follows body) (following_follows rest)
