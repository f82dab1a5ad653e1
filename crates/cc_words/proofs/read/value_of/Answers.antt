use Rattle.std.proofs.Common.{rules}
use Rattle.cc_words.proofs.Counts.{is_value, is_no_value}
use Rattle.cc_words.proofs.read.value_of.Goals as goal

pub returns-in-Ok : goal.returns-in-Ok
returns-in-Ok c = is_value c.args.word.now c.in-Ok.value c.requires.some c.requires.digits (search rules)

pub returns-in-Err : goal.returns-in-Err
returns-in-Err c = is_no_value c.args.word.now c.requires.some c.requires.digits (search rules)
