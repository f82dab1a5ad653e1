-- What a statement does (ECMA-372, 16; C++, 6). A part that is no block has no construction of its own to dispose, so that only blocks and the sections
-- of a switch are scopes here.
use Rattle.std.specs.Prelude.{ℕ, List, [], Option, Some, None, Ok, Err, if◌then◌else◌}
use Rattle.cc_core.specs.declared.state.Exit.{Exit}
use Rattle.cc_core.specs.declared.state.Exit.TheVariants as exit
use Rattle.cc_core.specs.declared.state.Held.{Held}
use Rattle.cc_core.specs.declared.state.Stop.TheVariants.{Wrong}
use Rattle.cc_core.specs.declared.tree.LoopKind.{LoopKind}
use Rattle.cc_core.specs.declared.tree.LoopKind.TheVariants.{TestFirst, BodyFirst}
use Rattle.cc_core.specs.declared.types.ClassInfo.{ClassInfo}
use Rattle.cc_core.specs.declared.world.Value.{Value, Nothing}
use Rattle.cc_core.specs.Types.{BareType}
use Rattle.cc_core.specs.Term.{Term}
use Rattle.cc_core.specs.Step.{Step, Steps, Sections, Block, Do, Declare, If, Loop, Switch, Break, Continue, Return, no_steps, next_step, no_sections, next_section}
use Rattle.cc_core.specs.Numbers.{zero_of}
use Rattle.cc_core.specs.Run.{Does, Calls, gives, given, bind, tick, write_local, by_truth}
use Rattle.cc_core.specs.Value.{value_of}
use Rattle.cc_core.specs.Leave.{then_step, then_in_scope, leave, turns, turns_after, broken, find_case, has_default, by_case}

-- what a variable is set to: the value of its initialiser, or without one zero or null
abbrev pub initial_value : List ClassInfo → Calls → BareType → Option Term → Does Value
initial_value w k type None = given (zero_of type)
initial_value w k type (Some e) = value_of w k e

abbrev pub do_if : List ClassInfo → Calls → Option Term → Does Exit
do_if w k None s = (Ok exit.Normal, s)
do_if w k (Some e) s = bind (value_of w k e s) (λ v. gives exit.Normal)

abbrev pub return_if : List ClassInfo → Calls → Option Term → Does Exit
return_if w k None s = (Ok (exit.Return Nothing), s)
return_if w k (Some e) s = bind (value_of w k e s) (λ v. gives (exit.Return v))

abbrev pub loop : ℕ → LoopKind → Does Value → Does Exit → Does Exit → Does Exit
loop n TestFirst test body after = turns n test body after
loop n BodyFirst test body after = turns_after n test body

abbrev mutual
  pub outcome_of : List ClassInfo → Calls → ℕ → Step → Does Exit
  outcome_of w k n (Block steps) s = scope_of w k n [] steps (tick s)
  outcome_of w k n (Do e) s = bind (value_of w k e (tick s)) (λ v. gives exit.Normal)
  outcome_of w k n (Declare x type e) s =
      bind (initial_value w k type e (tick s)) (λ v s1. bind (write_local x v s1) (λ done. gives exit.Normal))
  outcome_of w k n (If c a b) s =
      bind (value_of w k c (tick s)) (λ v. by_truth v (outcome_of w k n a) (outcome_of w k n b))
  outcome_of w k n (Loop kind c after body) s = loop n kind (value_of w k c) (outcome_of w k n body) (do_if w k after) (tick s)
  outcome_of w k n (Switch x e sections) s =
      bind (value_of w k e (tick s)) (λ v s1. bind (write_local x v s1) (λ u s2.
      broken (matching w k n sections u (defaulting w k n sections) s2)))
  outcome_of w k n Break s = (Ok exit.Break, tick s)
  outcome_of w k n Continue s = (Ok exit.Continue, tick s)
  outcome_of w k n (Return e) s = return_if w k e (tick s)
  outcome_of w k n _ s = (Err Wrong, tick s)

  -- The statements of a scope, in order. The list of what is to be disposed is that of the constructions completed so far, the newest first.
  pub scope_of : List ClassInfo → Calls → ℕ → List Held → Steps → Does Exit
  scope_of w k n held no_steps s = leave held (Ok exit.Normal, s)
  scope_of w k n held (next_step a rest) s = then_in_scope held (outcome_of w k n a s) (scope_of w k n held rest)

  -- the sections from the one on that has the value's label
  pub matching : List ClassInfo → Calls → ℕ → Sections → Value → Does Exit → Does Exit
  matching w k n no_sections v other s = other s
  matching w k n (next_section labels body rest) v other s =
      by_case (find_case v labels s)
      (λ s1. then_step (scope_of w k n [] body s1) (following w k n rest))
      (λ s1. matching w k n rest v other s1)

  -- the sections from the one on that has the label `default`
  pub defaulting : List ClassInfo → Calls → ℕ → Sections → Does Exit
  defaulting w k n no_sections s = (Ok exit.Normal, s)
  defaulting w k n (next_section labels body rest) s =
      if has_default labels then then_step (scope_of w k n [] body s) (following w k n rest) else defaulting w k n rest s

  pub following : List ClassInfo → Calls → ℕ → Sections → Does Exit
  following w k n no_sections s = (Ok exit.Normal, s)
  following w k n (next_section labels body rest) s = then_step (scope_of w k n [] body s) (following w k n rest)
