use Rattle.cc_functions.proofs.Named.{has_methods}
use Rattle.cc_functions.proofs.laws.each_has_methods.Goals as goal

pub returns : goal.returns
returns c functions main fits = has_methods functions main fits
