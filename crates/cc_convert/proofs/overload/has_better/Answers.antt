use Rattle.std.proofs.Common.{arith, below_more}
use Rattle.std.proofs.lemmas.Option.{slice_get_within}
use Rattle.cc_convert.proofs.Chosen.{not-better}
use Rattle.cc_convert.proofs.Rules.{refuted}
use Rattle.cc_convert.proofs.overload.has_better.Goals as goal

pub loop-at-preserved : goal.loop-at-preserved
loop-at-preserved c =
    let none = refuted _ _ c.is_better.ensures c.if-is_better.false in
    below_more _ _ c.loop-at.invariant (not-better _ _ _ _ _ _ _ _ c.index-given-at.is c.index-first-at.is c.index-second-at.is none)

pub returns : goal.returns
returns c = (
  λ h. cc,
  λ (at, h).
      let within = slice_get_within c.args.given.now at h.argument h.argument_is in
      absurd (c.loop-at.invariant at (omega arith) h),
)
