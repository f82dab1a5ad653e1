use Rattle.std.proofs.Common.{◌≡◌, ◌++◌, drop}
use Rattle.std.specs.List.{flat_map}
use Rattle.cc_names.specs.Types as types
use Rattle.cc_names.specs.Told.{told, told_one, told_all}
use Rattle.cc_names.proofs.space.namespaces.Given as goal

abbrev pub invariant-loop-one : goal.invariant-loop-one
invariant-loop-one l = l.list ++ flat_map (λ one. types.path_outermost one.path one.what) (told_all (drop l.one-index l.all)) ≡ types.namespaces (told_all l.all)
