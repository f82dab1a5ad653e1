use Rattle.cc_verify.proofs.Coded.{own_found}
use Rattle.cc_verify.proofs.codes.own_fault.Goals as goal

pub returns-clause-verdict : goal.returns-clause-verdict
returns-clause-verdict c t there =
    own_found c.args.environment c.as_slice.result.now c.args.before t c.index-as_slice-before.result c.args.body.now c.in_ok-frame.frame _ c.as_slice.ensures c.index-as_slice-before.is there c.in_ok-frame.ensures c.in_ok-found.ensures.verdict
