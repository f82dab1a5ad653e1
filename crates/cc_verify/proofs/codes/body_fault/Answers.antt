use Rattle.cc_verify.proofs.Coded.{no_body}
use Rattle.cc_verify.proofs.codes.body_fault.Goals as goal

pub returns-in-None-clause-verdict : goal.returns-in-None-clause-verdict
returns-in-None-clause-verdict c t there = no_body c.args.environment t _ c.in-None.ensures
