use Rattle.std.proofs.Common.{append_assoc}
use Rattle.cc_listing.proofs.lines.format_instruction.Goals as goal

pub returns : goal.returns
returns c = simp append_assoc c.format.ensures.ok
