use Rattle.std.proofs.Common.{◌≡◌, drop}
use Rattle.cc_names.specs.Outermost as spec
use Rattle.cc_names.proofs.paths.path_of.Given as goal

abbrev pub invariant-loop-name : goal.invariant-loop-name
invariant-loop-name l = spec.path_from l.path.items (drop l.name-index l.names) ≡ spec.path_of l.names
