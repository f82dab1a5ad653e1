-- The region of a statement does what the statement does.
use Rattle.std.proofs.Common.{◌≡◌, ℕ, zero, suc, List, [], ◌∷◌, Bool, true, false, Option, Some, None, Ok, Err, refl, ap, ◌∙◌}
use Rattle.cc_core.specs.declared.tree.SwitchLabel.{SwitchLabel}
use Rattle.std.specs.Prelude.{if◌then◌else◌}
use Rattle.cc_core.specs.declared.state.Exit.{Exit}
use Rattle.cc_core.specs.declared.state.Exit.TheVariants as exit
use Rattle.cc_core.specs.declared.state.State.{State}
use Rattle.cc_core.specs.declared.tree.LoopKind.{LoopKind}
use Rattle.cc_core.specs.declared.tree.LoopKind.TheVariants.{TestFirst, BodyFirst}
use Rattle.cc_core.specs.declared.types.ClassInfo.{ClassInfo}
use Rattle.cc_core.specs.declared.world.Value.{Value}
use Rattle.cc_core.specs.Numbers.{is_true}
use Rattle.cc_core.specs.Run.{Ran, Does, Calls, gives, bind, tick, write_local, by_truth}
use Rattle.cc_core.specs.Term.{Term}
use Rattle.cc_core.specs.Step as step
use Rattle.cc_core.specs.Step.{Step, Steps, Sections}
use Rattle.cc_core.specs.Value.{value_of}
use Rattle.cc_core.specs.Leave as s
use Rattle.cc_core.specs.Leave.{find_case, has_default}
use Rattle.cc_core.specs.Outcome as source
use Rattle.cc_core.specs.Outcome.{initial_value}
use Rattle.cc_region.specs.Leave as way
use Rattle.cc_region.specs.Leave.{Way, then_next, left_block, after_body}
use Rattle.cc_region.specs.Outcome as region
use Rattle.cc_dispose.specs.Lower.{lowered, lowered_all, lowered_sections}

-- the end of a statement as the end of its region
abbrev pub way_to : ℕ → Exit → Way
way_to inner exit.Normal = way.Next
way_to inner exit.Break = way.Break zero
way_to inner exit.Continue = way.Continue inner
way_to inner (exit.Return v) = way.Return v

abbrev pub ways : ℕ → Ran Exit → Ran Way
ways inner (Ok e, s) = (Ok (way_to inner e), s)
ways inner (Err e, s) = (Err e, s)

-- a part of a statement does what a part of its region does
pub record Same (inner : ℕ) (f : Does Exit) (g : Does Way) : Type 0 where
  pub at : (t : State) → ways inner (f t) ≡ g t

-- the sections of a switch, in which one Switch more stands around
switch_on : (inner : ℕ) (r : Ran Exit) → ways inner (s.broken r) ≡ left_block (ways (suc inner) r)
switch_on inner (Ok exit.Normal, t) = refl
switch_on inner (Ok exit.Break, t) = refl
switch_on inner (Ok exit.Continue, t) = refl
switch_on inner (Ok (exit.Return v), t) = refl
switch_on inner (Err e, t) = refl

module _ {inner : ℕ} where
  gives_same : {e : Exit} → Same inner (gives e) (gives (way_to inner e))
  gives_same = record { at = λ t. refl }

  tick_same : {f : Does Exit} {g : Does Way} → Same inner f g → Same inner (λ t. f (tick t)) (λ t. g (tick t))
  tick_same h = record { at = λ t. h.at (tick t) }

  bind_on : {A : Type 0} (r : Ran A) (k : A → Does Exit) (k' : A → Does Way) → ((a : A) → Same inner (k a) (k' a)) → ways inner (bind r k) ≡ bind r k'
  bind_on (Ok a, t) k k' h = (h a).at t
  bind_on (Err e, t) k k' h = refl

  bind_same : {A : Type 0} {k : A → Does Exit} {k' : A → Does Way} (f : Does A) → ((a : A) → Same inner (k a) (k' a)) → Same inner (λ t. bind (f t) k) (λ t. bind (f t) k')
  bind_same {k = k} {k' = k'} f h = record { at = λ t. bind_on (f t) k k' h }

  bool_same : {a b : Does Exit} {a' b' : Does Way} (c : Bool) → Same inner a a' → Same inner b b' → Same inner (λ t. elim c [ true ↦ a t | false ↦ b t ]) (λ t. elim c [ true ↦ a' t | false ↦ b' t ])
  bool_same true p q = record { at = p.at }
  bool_same false p q = record { at = q.at }

  truth_same : {a b : Does Exit} {a' b' : Does Way} (v : Value) → Same inner a a' → Same inner b b' → Same inner (by_truth v a b) (by_truth v a' b')
  truth_same v p q = bool_same (is_true v) p q

  default_same : {a b : Does Exit} {a' b' : Does Way} (c : Bool) → Same inner a a' → Same inner b b' → Same inner (λ t. if c then a t else b t) (λ t. if c then a' t else b' t)
  default_same true p q = record { at = p.at }
  default_same false p q = record { at = q.at }

  scope_on : (r : Ran Exit) (k : Does Exit) (k' : Does Way) → Same inner k k' → ways inner (s.then_in_scope [] r k) ≡ then_next (ways inner r) k'
  scope_on (Ok exit.Normal, t) k k' h = h.at t
  scope_on (Ok exit.Break, t) k k' h = refl
  scope_on (Ok exit.Continue, t) k k' h = refl
  scope_on (Ok (exit.Return v), t) k k' h = refl
  scope_on (Err e, t) k k' h = refl

  in_scope_same : {f k : Does Exit} {f' k' : Does Way} → Same inner f f' → Same inner k k' → Same inner (λ t. s.then_in_scope [] (f t) k) (λ t. then_next (f' t) k')
  in_scope_same {f} {k} {f'} {k'} a b = record { at = λ t. scope_on (f t) k k' b ∙ ap (λ r. then_next r k') (a.at t) }

  step_on : (r : Ran Exit) (k : Does Exit) (k' : Does Way) → Same inner k k' → ways inner (s.then_step r k) ≡ then_next (ways inner r) k'
  step_on (Ok exit.Normal, t) k k' h = h.at t
  step_on (Ok exit.Break, t) k k' h = refl
  step_on (Ok exit.Continue, t) k k' h = refl
  step_on (Ok (exit.Return v), t) k k' h = refl
  step_on (Err e, t) k k' h = refl

  step_same : {f k : Does Exit} {f' k' : Does Way} → Same inner f f' → Same inner k k' → Same inner (λ t. s.then_step (f t) k) (λ t. then_next (f' t) k')
  step_same {f} {k} {f'} {k'} a b = record { at = λ t. step_on (f t) k k' b ∙ ap (λ r. then_next r k') (a.at t) }

  -- the body of a loop, in which the loop itself is the innermost one
  body_on : (r : Ran Exit) (k : Does Exit) (k' : Does Way) → Same inner k k' → ways inner (s.after_body r k) ≡ after_body (ways zero r) k'
  body_on (Ok exit.Normal, t) k k' h = h.at t
  body_on (Ok exit.Break, t) k k' h = refl
  body_on (Ok exit.Continue, t) k k' h = h.at t
  body_on (Ok (exit.Return v), t) k k' h = refl
  body_on (Err e, t) k k' h = refl

  body_same : {f k : Does Exit} {f' k' : Does Way} → Same zero f f' → Same inner k k' → Same inner (λ t. s.after_body (f t) k) (λ t. after_body (f' t) k')
  body_same {f} {k} {f'} {k'} a b = record { at = λ t. body_on (f t) k k' b ∙ ap (λ r. after_body r k') (a.at t) }

  switch_same : {f : Does Exit} {f' : Does Way} → Same (suc inner) f f' → Same inner (λ t. s.broken (f t)) (λ t. left_block (f' t))
  switch_same {f} {f'} a = record { at = λ t. switch_on inner (f t) ∙ ap left_block (a.at t) }

  case_on : {a b : Does Exit} {a' b' : Does Way} (r : Bool × State) → Same inner a a' → Same inner b b' → ways inner (s.by_case r a b) ≡ way.by_case r a' b'
  case_on (true, t) p q = p.at t
  case_on (false, t) p q = q.at t

  case_same : {a b : Does Exit} {a' b' : Does Way} (v : Value) (labels : List SwitchLabel) → Same inner a a' → Same inner b b' → Same inner (λ t. s.by_case (find_case v labels t) a b) (λ t. way.by_case (find_case v labels t) a' b')
  case_same v labels p q = record { at = λ t. case_on (find_case v labels t) p q }

  module _ {body after : Does Exit} {body' after' : Does Way} (test : Does Value) (b : Same zero body body') (a : Same inner after after') where
    turns_same : (n : ℕ) → Same inner (s.turns n test body after) (way.turns n test body' after')
    turns_same zero = bind_same test (λ v. truth_same v (record { at = λ t. refl }) gives_same)
    turns_same (suc n) = bind_same test (λ v. truth_same v (tick_same (body_same b (step_same a (turns_same n)))) gives_same)

    turns_after_same : (n : ℕ) → Same inner (s.turns_after n test body) (way.turns_after n test body')
    turns_after_same zero = record { at = λ t. refl }
    turns_after_same (suc n) = tick_same (body_same b (bind_same test (λ v. truth_same v (turns_after_same n) gives_same)))

    loop_same : (n : ℕ) (kind : LoopKind) → Same inner (source.loop n kind test body after) (region.loop n kind test body' after')
    loop_same n TestFirst = record { at = (turns_same n).at }
    loop_same n BodyFirst = record { at = (turns_after_same n).at }

module _ (w : List ClassInfo) (k : Calls) (n : ℕ) where
  do_if_same : (inner : ℕ) (e : Option Term) → Same inner (source.do_if w k e) (region.do_if w k e)
  do_if_same inner None = record { at = λ t. refl }
  do_if_same inner (Some e) = bind_same (value_of w k e) (λ v. gives_same)

  return_if_same : (inner : ℕ) (e : Option Term) → Same inner (source.return_if w k e) (region.return_if w k e)
  return_if_same inner None = record { at = λ t. refl }
  return_if_same inner (Some e) = bind_same (value_of w k e) (λ v. gives_same)

  mutual
    pub outcome_same : (inner : ℕ) (a : Step) → Same inner (source.outcome_of w k n a) (region.outcome_of w k n (lowered inner a))
    outcome_same inner (step.Block steps) = tick_same (scope_same inner steps)
    outcome_same inner (step.Do e) = bind_same (λ t. value_of w k e (tick t)) (λ v. gives_same)
    outcome_same inner (step.Declare x type e) =
        bind_same (λ t. initial_value w k type e (tick t)) (λ v. bind_same (write_local x v) (λ done. gives_same))
    outcome_same inner (step.If c a b) =
        bind_same (λ t. value_of w k c (tick t)) (λ v. truth_same v (outcome_same inner a) (outcome_same inner b))
    outcome_same inner (step.Loop kind c after body) =
        tick_same (loop_same (value_of w k c) (outcome_same zero body) (do_if_same inner after) n kind)
    outcome_same inner (step.Switch x e sections) =
        bind_same (λ t. value_of w k e (tick t)) (λ v. bind_same (write_local x v) (λ u.
        switch_same (matching_same (suc inner) sections u (defaulting_same (suc inner) sections))))
    outcome_same inner step.Break = record { at = λ t. refl }
    outcome_same inner step.Continue = record { at = λ t. refl }
    outcome_same inner (step.Return e) = tick_same (return_if_same inner e)
    outcome_same inner (step.Throw e) = record { at = λ t. refl }
    outcome_same inner (step.DeclareStack x e) = record { at = λ t. refl }
    outcome_same inner (step.ForEach x e body) = record { at = λ t. refl }
    outcome_same inner step.Rethrow = record { at = λ t. refl }
    outcome_same inner (step.Try body caught last) = record { at = λ t. refl }
    outcome_same inner (step.Delete e) = record { at = λ t. refl }

    scope_same : (inner : ℕ) (l : Steps) → Same inner (source.scope_of w k n [] l) (region.in_order w k n (lowered_all inner l))
    scope_same inner step.no_steps = record { at = λ t. refl }
    scope_same inner (step.next_step a rest) = in_scope_same (outcome_same inner a) (scope_same inner rest)

    matching_same : {other : Does Exit} {other' : Does Way} (inner : ℕ) (l : Sections) (v : Value) → Same inner other other'
        → Same inner (source.matching w k n l v other) (region.matching w k n (lowered_sections inner l) v other')
    matching_same inner step.no_sections v h = record { at = h.at }
    matching_same inner (step.next_section labels body rest) v h =
        case_same v labels (step_same (scope_same inner body) (following_same inner rest)) (matching_same inner rest v h)

    defaulting_same : (inner : ℕ) (l : Sections) → Same inner (source.defaulting w k n l) (region.defaulting w k n (lowered_sections inner l))
    defaulting_same inner step.no_sections = record { at = λ t. refl }
    defaulting_same inner (step.next_section labels body rest) =
        default_same (has_default labels) (step_same (scope_same inner body) (following_same inner rest)) (defaulting_same inner rest)

    following_same : (inner : ℕ) (l : Sections) → Same inner (source.following w k n l) (region.following w k n (lowered_sections inner l))
    following_same inner step.no_sections = record { at = λ t. refl }
    following_same inner (step.next_section labels body rest) = step_same (scope_same inner body) (following_same inner rest)
