use Rattle.std.proofs.Common.{◌≡◌, ◌++◌, drop}
use Rattle.cc_names.specs.Types as types
use Rattle.cc_names.specs.Told.{told, told_one, told_all}
use Rattle.cc_names.proofs.space.directed.Given as goal

abbrev pub invariant-loop-one : goal.invariant-loop-one
invariant-loop-one l = l.list ++ types.directed (told_all (drop l.one-index l.all)) ≡ types.directed (told_all l.all)
