use Rattle.std.proofs.Common.{◌≡◌, ◌++◌, drop}
use Rattle.cc_names.specs.Refusals as spec
use Rattle.cc_names.specs.Told.{told, told_one, told_all}
use Rattle.cc_names.proofs.space.function_keys.Given as goal

abbrev pub invariant-loop-one : goal.invariant-loop-one
invariant-loop-one l = l.list ++ spec.function_keys (told_all (drop l.one-index l.all)) ≡ spec.function_keys (told_all l.all)
