use Rattle.std.proofs.Common.{◌≡◌, drop, map}
use Rattle.cc_names.specs.Checks.{run, joined}
use Rattle.cc_names.specs.Classes as spec
use Rattle.cc_names.specs.Spaces.{space}
use Rattle.cc_names.proofs.find_type.Here.class_members.Given as goal

abbrev pub invariant-members : goal.invariant-members
invariant-members l =
    run (joined (map (spec.member_checks (space l.self.space.now) l.self.path.now l.class) (drop l.member-index l.member-items))) l.first
    ≡ run (joined (map (spec.member_checks (space l.self.space.now) l.self.path.now l.class) l.member-items)) l.initial.first
