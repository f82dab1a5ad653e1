use Rattle.std.proofs.Common.{◌≡◌, drop}
use Rattle.std.specs.List.{flat_map}
use Rattle.cc_names.specs.Outermost.{within}
use Rattle.cc_names.specs.Spaces as spaces
use Rattle.cc_names.specs.Classes.{held_type}
use Rattle.cc_names.specs.FullNames.{optional_full_name, name_list}
use Rattle.cc_names.proofs.ways.Pairs.add_held.Given as goal

abbrev pub invariant-loop-member : goal.invariant-loop-member
invariant-loop-member l =
    spaces.with_pairs l.self (within l.here.path.now l.class.name.name) (flat_map (λ member. name_list (optional_full_name (spaces.space l.here.space.now) l.here.path.now (held_type member))) (drop l.member-index l.member-items))
    ≡ spaces.with_pairs l.initial.self (within l.here.path.now l.class.name.name) (flat_map (λ member. name_list (optional_full_name (spaces.space l.here.space.now) l.here.path.now (held_type member))) l.member-items)
