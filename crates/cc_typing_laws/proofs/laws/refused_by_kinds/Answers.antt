use Rattle.cc_typing_laws.proofs.KindsOfPrograms as kinds
use Rattle.cc_typing_laws.proofs.laws.refused_by_kinds.Goals as goal

pub returns : goal.returns
returns c = kinds.refused_by_kinds
