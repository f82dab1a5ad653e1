use Rattle.std.proofs.Common.{ap}
use Rattle.cc_core.specs.Types.{bare}
use Rattle.cc_convert.specs.Conversions.{is_handle}
use Rattle.cc_convert.proofs.Rules.{refers-null}
use Rattle.cc_convert.proofs.conversion.refers.Goals as goal

pub returns-in-Null : goal.returns-in-Null
returns-in-Null c = refers-null _ _ _ (ap bare c.in-Null.is) (ap (λ of. is_handle (bare of)) c.in-Array.is)
