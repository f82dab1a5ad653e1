use Rattle.std.proofs.Common.{append_assoc}
use Rattle.cppcli.proofs.note.format_class_rule.Goals as goal

pub returns : goal.returns
returns c = simp append_assoc c.format.ensures.ok
