use Rattle.std.proofs.Common.{◌≡◌, ◌∙◌, ◌+◌, ◌<◌, ◌≤◌, ◌⊎◌, inl, ℕ, List, length, subst, refl, arith}
use Rattle.std.proofs.lemmas.List.{take_all}
use Rattle.cc_names.specs.Reaching.{In}
use Rattle.cc_names.proofs.Marking.{nothing_some}
use Rattle.cc_names.proofs.Searching.{Kept, Added, Only, added_step, only_step}
use Rattle.cc_names.proofs.reaching.Reached.add.Goals as goal

pub loop-number-init : goal.loop-number-init
loop-number-init c = record { size = refl; kept = λ at pair e. e; added = λ pair found less. absurd (nothing_some pair found.1); only = λ at pair e. inl e }

pub loop-number-preserved : goal.loop-number-preserved
loop-number-preserved c =
    let before = c.loop-number.invariant in
    record {
      size = c.in_ok-add_one.ensures.length ∙ before.size;
      kept = λ at pair e. c.in_ok-add_one.ensures.kept at pair (before.kept at pair e);
      added = added_step c.args.numbers.now c.loop-number.number-index (length c.args.self.now.is_used.items) c.loop-number.self.order.items c.add_one.new.self.order.items c.loop-number-test.true before.added c.in_ok-add_one.ensures.kept
          (λ less. c.in_ok-add_one.ensures.added (omega (arith, less, before.size)));
      only = only_step c.args.numbers.now c.loop-number.number-index c.args.self.now.order.items c.loop-number.self.order.items c.add_one.new.self.order.items c.loop-number-test.true before.kept before.only c.in_ok-add_one.ensures.only;
    }

pub returns-clause-kept : goal.returns-clause-kept
returns-clause-kept c = c.loop-number.invariant.kept

pub returns-clause-added : goal.returns-clause-added
returns-clause-added c =
    subst (λ (l : List ℕ). Added l (length c.args.self.now.is_used.items) c.loop-number.self.order.items) (take_all c.loop-number.number-index c.args.numbers.now c.loop-number-test.false) c.loop-number.invariant.added

pub returns-clause-only : goal.returns-clause-only
returns-clause-only c =
    subst (λ (l : List ℕ). Only l c.args.self.now.order.items c.loop-number.self.order.items) (take_all c.loop-number.number-index c.args.numbers.now c.loop-number-test.false) c.loop-number.invariant.only
