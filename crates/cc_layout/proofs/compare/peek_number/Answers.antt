use Rattle.cc_layout.proofs.Laws.{pow_pos}
use Rattle.cc_layout.proofs.compare.peek_number.Goals as goal

pub returns-then-bytes-place-clause-fits : goal.returns-then-bytes-place-clause-fits
returns-then-bytes-place-clause-fits c = pow_pos c.args.width
