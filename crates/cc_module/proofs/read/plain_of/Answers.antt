use Rattle.cc_module.proofs.Heads.{bad_plain_at}
use Rattle.cc_module.proofs.read.plain_of.Goals as goal

pub returns-in-Err-clause-err : goal.returns-in-Err-clause-err
returns-in-Err-clause-err c n e = bad_plain_at c.args.blob.now n c.requires.some c.requires.plain (c.in-Err.ensures.err n (let f = e in cc))
