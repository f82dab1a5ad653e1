use Rattle.cc_soundness.proofs.Modules.{verified_never_stuck}
use Rattle.cc_soundness.proofs.laws.verified_is_never_stuck.Goals as goal

pub returns : goal.returns
returns c = verified_never_stuck c.one_spelling.ensures c.one_signature.ensures
