use Rattle.std.proofs.Common.{arith, ◌∙◌}
use Rattle.cc_lexer.proofs.PastGaps.{gap_passed, gaps_ended}
use Rattle.cc_lexer.proofs.gaps.past_gaps.Goals as goal

pub gaps-preserved : goal.gaps-preserved
gaps-preserved c =
    let i = c.gaps.invariant in
    let n = c.gap_len-n.ensures.value in
    let p = gap_passed i.1 c.gaps.rest.now c.past-rest.result.now (omega (arith, n)) (rw (← n) c.past-rest.ensures.rest) (omega (arith, n)) i.2 in
    (omega arith, p.0, p.1, p.2 ∙ i.3)

pub returns-then-n-eq0-clause-value : goal.returns-then-n-eq0-clause-value
returns-then-n-eq0-clause-value c =
    let i = c.gaps.invariant in
    gaps_ended i.1 c.gaps.rest.now (omega (arith, c.gap_len-n.ensures.value)) ∙ i.3
