use Rattle.cc_soundness.proofs.Executables.{verified_loads}
use Rattle.cc_soundness.proofs.laws.verified_is_loaded.Goals as goal

pub returns : goal.returns
returns c = verified_loads c.one_signature.ensures
