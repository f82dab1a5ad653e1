use Rattle.std.proofs.Common.{◌≡◌, drop, map}
use Rattle.std.specs.List.{flat_map}
use Rattle.cc_names.specs.Types as types
use Rattle.cc_names.specs.Spaces as spaces
use Rattle.cc_names.specs.Told.{told, told_one, told_all}
use Rattle.cc_names.proofs.space.named_types.Given as goal

abbrev pub invariant-loop-one : goal.invariant-loop-one
invariant-loop-one l = spaces.with_types l.made (flat_map (λ one. types.named_outermost one.path one.what) (told_all (drop l.one-index l.all))) ≡ record { types = map (λ one. one.type_) (types.named_types (told_all l.all)); names = map (λ one. one.name) (types.named_types (told_all l.all)) }
