use Rattle.std.proofs.Common.{arith, below_more}
use Rattle.std.proofs.lemmas.Option.{slice_get_within}
use Rattle.cc_convert.proofs.overload.first_unbeaten.Goals as goal
use Rattle.cc_convert.proofs.overload.first_unbeaten.Goals.{else-other-one-via-then-other-one+else-is_unbeaten, else-other-one-via-else-other-one}

pub loop-at-preserved : goal.loop-at-preserved
loop-at-preserved c =
    below_more _ _ c.loop-at.invariant
    (elim c.else-other-one.branch [
      | else-other-one-via-then-other-one+else-is_unbeaten w ↦ λ v n. w.if-is_unbeaten.ensures v
      | else-other-one-via-else-other-one w ↦ λ v n. absurd (n w.if-other-one.false)
    ])

pub returns-clause-none : goal.returns-clause-none
returns-clause-none c other v n =
    let within = slice_get_within c.args.candidates.now other v.signature v.is in
    c.loop-at.invariant other (omega arith) v n
