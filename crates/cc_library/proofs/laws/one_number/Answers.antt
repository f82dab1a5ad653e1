use Rattle.cc_library.proofs.Written.{number_written, written_number}
use Rattle.cc_library.proofs.laws.one_number.Goals as goal

pub returns : goal.returns
returns c = λ text value. (number_written text value, written_number text value)
