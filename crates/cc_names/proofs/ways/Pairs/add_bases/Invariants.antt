use Rattle.std.proofs.Common.{◌≡◌, drop}
use Rattle.std.specs.List.{flat_map}
use Rattle.cc_names.specs.Outermost.{within}
use Rattle.cc_names.specs.Spaces as spaces
use Rattle.cc_names.specs.FullNames.{full_name, name_list}
use Rattle.cc_names.proofs.ways.Pairs.add_bases.Given as goal

abbrev pub invariant-loop-base : goal.invariant-loop-base
invariant-loop-base l =
    spaces.with_pairs l.self (within l.here.path.now l.class.name.name) (flat_map (λ base. name_list (full_name (spaces.space l.here.space.now) l.here.path.now base.of)) (drop l.base-index l.base-items))
    ≡ spaces.with_pairs l.initial.self (within l.here.path.now l.class.name.name) (flat_map (λ base. name_list (full_name (spaces.space l.here.space.now) l.here.path.now base.of)) l.base-items)
