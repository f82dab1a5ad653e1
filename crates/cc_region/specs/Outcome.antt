-- What a region does, in one pass (ECMA-372, 16; C++, 6), over the state of the source meaning.
use Rattle.std.specs.Prelude.{ℕ, List, Option, Some, None, Ok, Err, if◌then◌else◌}
use Rattle.cc_core.specs.declared.state.Stop.TheVariants.{Wrong}
use Rattle.cc_core.specs.declared.tree.LoopKind.{LoopKind}
use Rattle.cc_core.specs.declared.tree.LoopKind.TheVariants.{TestFirst, BodyFirst}
use Rattle.cc_core.specs.declared.types.ClassInfo.{ClassInfo}
use Rattle.cc_core.specs.declared.world.Value.{Value, Nothing}
use Rattle.cc_core.specs.Term.{Term}
use Rattle.cc_core.specs.Run.{Does, Calls, gives, bind, tick, write_local, by_truth}
use Rattle.cc_core.specs.Value.{value_of}
use Rattle.cc_core.specs.Outcome.{initial_value}
use Rattle.cc_core.specs.Leave.{find_case, has_default}
use Rattle.cc_region.specs.Leave.{Way, Next, then_next, left_block, turns, turns_after, guarded, guarded_from_throws, by_case}
use Rattle.cc_region.specs.Leave as way
use Rattle.cc_region.specs.Region.{Region, Regions, Sections, Sequence, Do, Declare, If, Block, Switch, Loop, Guard, OnThrow, Finally, Break, Continue, Return, no_regions, next_region, no_sections, next_section}

abbrev pub do_if : List ClassInfo → Calls → Option Term → Does Way
do_if w k None s = (Ok Next, s)
do_if w k (Some e) s = bind (value_of w k e s) (λ v. gives Next)

abbrev pub return_if : List ClassInfo → Calls → Option Term → Does Way
return_if w k None s = (Ok (way.Return Nothing), s)
return_if w k (Some e) s = bind (value_of w k e s) (λ v. gives (way.Return v))

abbrev pub loop : ℕ → LoopKind → Does Value → Does Way → Does Way → Does Way
loop n TestFirst test body after = turns n test body after
loop n BodyFirst test body after = turns_after n test body

abbrev mutual
  pub outcome_of : List ClassInfo → Calls → ℕ → Region → Does Way
  outcome_of w k n (Sequence regions) s = in_order w k n regions (tick s)
  outcome_of w k n (Do e) s = bind (value_of w k e (tick s)) (λ v. gives Next)
  outcome_of w k n (Declare x type e) s =
      bind (initial_value w k type e (tick s)) (λ v s1. bind (write_local x v s1) (λ done. gives Next))
  outcome_of w k n (If c a b) s =
      bind (value_of w k c (tick s)) (λ v. by_truth v (outcome_of w k n a) (outcome_of w k n b))
  outcome_of w k n (Block body) s = left_block (outcome_of w k n body (tick s))
  outcome_of w k n (Switch x e sections) s =
      bind (value_of w k e (tick s)) (λ v s1. bind (write_local x v s1) (λ u s2.
      left_block (matching w k n sections u (defaulting w k n sections) s2)))
  outcome_of w k n (Loop kind c after body) s = loop n kind (value_of w k c) (outcome_of w k n body) (do_if w k after) (tick s)
  outcome_of w k n (Guard body cleanup) s = guarded (outcome_of w k n body (tick s)) (outcome_of w k n cleanup)
  outcome_of w k n (OnThrow body cleanup) s = guarded_from_throws (outcome_of w k n body (tick s)) (outcome_of w k n cleanup)
  outcome_of w k n (Finally body last) s = guarded (outcome_of w k n body (tick s)) (outcome_of w k n last)
  outcome_of w k n (Break number) s = (Ok (way.Break number), tick s)
  outcome_of w k n (Continue number) s = (Ok (way.Continue number), tick s)
  outcome_of w k n (Return e) s = return_if w k e (tick s)
  outcome_of w k n _ s = (Err Wrong, tick s)

  -- regions one after another
  pub in_order : List ClassInfo → Calls → ℕ → Regions → Does Way
  in_order w k n no_regions s = (Ok Next, s)
  in_order w k n (next_region a rest) s = then_next (outcome_of w k n a s) (in_order w k n rest)

  -- the sections from the one on that has the value's label
  pub matching : List ClassInfo → Calls → ℕ → Sections → Value → Does Way → Does Way
  matching w k n no_sections v other s = other s
  matching w k n (next_section labels body rest) v other s =
      by_case (find_case v labels s)
      (λ s1. then_next (in_order w k n body s1) (following w k n rest))
      (λ s1. matching w k n rest v other s1)

  -- the sections from the one on that has the label `default`
  pub defaulting : List ClassInfo → Calls → ℕ → Sections → Does Way
  defaulting w k n no_sections s = (Ok Next, s)
  defaulting w k n (next_section labels body rest) s =
      if has_default labels then then_next (in_order w k n body s) (following w k n rest) else defaulting w k n rest s

  pub following : List ClassInfo → Calls → ℕ → Sections → Does Way
  following w k n no_sections s = (Ok Next, s)
  following w k n (next_section labels body rest) s = then_next (in_order w k n body s) (following w k n rest)
