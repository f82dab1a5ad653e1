use Rattle.std.proofs.Common.{◌≡◌, drop}
use Rattle.cc_names.specs.Outermost as spec
use Rattle.cc_names.proofs.paths.is_path.Given as goal

abbrev pub invariant-loop-name : goal.invariant-loop-name
invariant-loop-name l = spec.is_path l.rest (drop l.name-index l.names) ≡ spec.is_path l.path l.names
