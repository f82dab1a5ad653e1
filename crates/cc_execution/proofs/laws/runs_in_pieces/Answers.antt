use Rattle.cc_execution.proofs.Pieces.{pieces}
use Rattle.cc_execution.proofs.laws.runs_in_pieces.Goals as goal

pub returns : goal.returns
returns c = pieces
