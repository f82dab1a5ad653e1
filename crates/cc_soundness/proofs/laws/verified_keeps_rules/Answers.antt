use Rattle.cc_soundness.proofs.Modules.{verified_keeps}
use Rattle.cc_soundness.proofs.laws.verified_keeps_rules.Goals as goal

pub returns : goal.returns
returns c = verified_keeps c.one_spelling.ensures c.one_signature.ensures
