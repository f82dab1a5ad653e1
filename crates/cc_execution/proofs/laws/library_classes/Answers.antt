use Rattle.std.proofs.Common.{refl}
use Rattle.cc_execution.specs.Library.{class_names, class_bases}
use Rattle.cc_execution.proofs.laws.library_classes.Goals as goal

pub returns : goal.returns
unfolding class_names class_bases
returns c = record { names = refl; bases = refl; console = refl; arithmetic = refl; division = refl; null = refl }
