use Rattle.std.proofs.Common.{ℕ, ◌≡◌, ◌-◌, ◌^◌, min, drop, map}
use Rattle.cc_template.specs.Counting.{run}
use Rattle.cc_template.specs.Nodes.{joined, member_nodes}
use Rattle.cc_template.proofs.room.Room.members.Given as goal

abbrev pub invariant-members : goal.invariant-members
invariant-members l = (number : ℕ) → l.data_members ≡ min number (2 ^ 64 - 1) → run (joined (map (member_nodes number) (drop l.member-index l.members))) l.room ≡ run (joined (map (member_nodes number) l.initial.members)) l.initial.room
