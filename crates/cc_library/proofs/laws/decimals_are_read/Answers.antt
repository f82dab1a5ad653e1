use Rattle.std.specs.Fmt.{signed_decimal}
use Rattle.cc_library.proofs.Written.{decimal_written, written_number}
use Rattle.cc_library.proofs.laws.decimals_are_read.Goals as goal

pub returns : goal.returns
returns c = λ value small. written_number (signed_decimal value) value (decimal_written value small)
