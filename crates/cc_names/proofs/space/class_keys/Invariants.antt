use Rattle.std.proofs.Common.{◌≡◌, ◌++◌, drop}
use Rattle.cc_names.specs.Refusals as spec
use Rattle.cc_names.specs.Told.{told, told_one, told_all}
use Rattle.cc_names.proofs.space.class_keys.Given as goal

abbrev pub invariant-loop-one : goal.invariant-loop-one
invariant-loop-one l = l.list ++ spec.class_keys (told_all (drop l.one-index l.all)) ≡ spec.class_keys (told_all l.all)
