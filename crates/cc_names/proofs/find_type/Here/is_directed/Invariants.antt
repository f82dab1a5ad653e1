use Rattle.std.proofs.Common.{◌≡◌, drop}
use Rattle.cc_names.specs.Types as spec
use Rattle.cc_names.proofs.find_type.Here.is_directed.Given as goal

abbrev pub invariant-loop-one : goal.invariant-loop-one
invariant-loop-one l = spec.is_directed (drop l.one-index l.one-items) l.at l.path ≡ spec.is_directed l.one-items l.at l.path
