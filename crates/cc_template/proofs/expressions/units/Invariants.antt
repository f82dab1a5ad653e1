use Rattle.std.proofs.Common.{◌≡◌, ◌≤◌, ◌+◌, ◌-◌, ◌^◌, min, drop}
use Rattle.cc_template.specs.Nodes.{units}
use Rattle.cc_template.proofs.expressions.units.Given as goal

abbrev pub invariant-texts : goal.invariant-texts
invariant-texts l = record {
  so_far : min (l.sum + units (drop l.text-index l.texts)) (2 ^ 64 - 1) ≡ min (units l.initial.texts) (2 ^ 64 - 1);
  within : l.sum ≤ 2 ^ 64 - 1;
}
