use Rattle.std.proofs.Common.{◌≡◌, ◌≤◌, ◌+◌, ◌-◌, ◌^◌, min, drop}
use Rattle.cc_template.specs.Nodes.{data_members}
use Rattle.cc_template.proofs.members.data_members.Given as goal

abbrev pub invariant-members : goal.invariant-members
invariant-members l = record {
  so_far : min (l.sum + data_members (drop l.member-index l.members)) (2 ^ 64 - 1) ≡ min (data_members l.initial.members) (2 ^ 64 - 1);
  within : l.sum ≤ 2 ^ 64 - 1;
}
