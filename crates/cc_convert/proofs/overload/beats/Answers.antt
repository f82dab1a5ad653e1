use Rattle.cc_convert.proofs.Rules.{refuted}
use Rattle.cc_convert.proofs.overload.beats.Goals as goal

pub returns-then-not-has_better : goal.returns-then-not-has_better
returns-then-not-has_better c =
    let first = c.as_slice-first.ensures in
    let second = c.as_slice-second.ensures in
    let worse = refuted _ _ c.has_better.ensures c.if-not-has_better.true in
    let better = c.has_better-then-not-has_better.ensures in (
      λ t. record {
        none_worse = λ h. worse (rw (first, second) h);
        one_better = rw (first, second) at (better.0 t);
      },
      λ b. better.1 (rw (first, second) b.one_better),
    )
