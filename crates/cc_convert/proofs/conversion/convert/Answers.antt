use Rattle.std.proofs.Common.{refl, arith, zero-le}
use Rattle.cc_convert.specs.Conversions as rule
use Rattle.cc_convert.proofs.Rules.{lowest-from, no-rule, promoted_to, same_type, refuted}
use Rattle.cc_convert.proofs.conversion.convert.Goals as goal

pub returns-then-is_same-clause-some : goal.returns-then-is_same-clause-some
returns-then-is_same-clause-some c = record {
  covered = same_type _ _ _ (c.is_same.ensures.0 c.if-is_same.true);
  rank = refl;
  lowest = λ other covers. zero-le;
}

pub returns-then-promotes-clause-some : goal.returns-then-promotes-clause-some
returns-then-promotes-clause-some c =
    let small = c.promotes.ensures.0 c.if-promotes.true in
    record {
      covered = promoted_to _ _ _ small.0 small.1;
      rank = refl;
      lowest = lowest-from _ _ _ 1 (λ _. refuted _ _ c.is_same.ensures c.if-is_same.false) (λ h. absurd (omega arith)) (λ h. absurd (omega arith)) (λ h. absurd (omega arith)) (omega arith);
    }

pub returns-then-are_fundamental-clause-some : goal.returns-then-are_fundamental-clause-some
returns-then-are_fundamental-clause-some c =
    let same = refuted _ _ c.is_same.ensures c.if-is_same.false in
    let both = c.are_fundamental.ensures.0 c.if-are_fundamental.true in
    record {
      covered = rule.number both.0 both.1 same;
      rank = refl;
      lowest = lowest-from _ _ _ 2 (λ _. same) (λ _ s t. refuted _ _ c.promotes.ensures c.if-promotes.false (s, t)) (λ h. absurd (omega arith)) (λ h. absurd (omega arith)) (omega arith);
    }

pub returns-then-refers-clause-some : goal.returns-then-refers-clause-some
returns-then-refers-clause-some c = record {
  covered = c.refers.ensures.0 c.if-refers.true;
  rank = refl;
  lowest = lowest-from _ _ _ 3 (λ _. refuted _ _ c.is_same.ensures c.if-is_same.false) (λ _ s t. refuted _ _ c.promotes.ensures c.if-promotes.false (s, t))
      (λ _ f t. refuted _ _ c.are_fundamental.ensures c.if-are_fundamental.false (f, t)) (λ h. absurd (omega arith)) (omega arith);
}

pub returns-then-boxes-clause-some : goal.returns-then-boxes-clause-some
returns-then-boxes-clause-some c = record {
  covered = c.boxes.ensures.0 c.if-boxes.true;
  rank = refl;
  lowest = lowest-from _ _ _ 4 (λ _. refuted _ _ c.is_same.ensures c.if-is_same.false) (λ _ s t. refuted _ _ c.promotes.ensures c.if-promotes.false (s, t))
      (λ _ f t. refuted _ _ c.are_fundamental.ensures c.if-are_fundamental.false (f, t)) (λ _. refuted _ _ c.refers.ensures c.if-refers.false) (omega arith);
}

pub returns-clause-none : goal.returns-clause-none
returns-clause-none c =
    no-rule _ _ _ (refuted _ _ c.is_same.ensures c.if-is_same.false) (λ s t. refuted _ _ c.promotes.ensures c.if-promotes.false (s, t))
    (λ f t. refuted _ _ c.are_fundamental.ensures c.if-are_fundamental.false (f, t)) (refuted _ _ c.refers.ensures c.if-refers.false) (refuted _ _ c.boxes.ensures c.if-boxes.false)
