use Rattle.std.proofs.Common.{◌≡◌, ◌≤◌, ◌-◌, ℕ, length}
use Rattle.std.specs.Prelude.{Option}
use Rattle.cc_cil.specs.Steps.{Checks}
use Rattle.cc_machine.proofs.checked.first_wrong.Given as goal

abbrev pub invariant-loop-at : goal.invariant-loop-at
invariant-loop-at l = record {
  within : l.at ≤ length l.code;
  code : l.code ≡ l.body.code;
  most : l.most ≡ l.body.max_stack;
  leads : (answer : Option ℕ) → Checks l.body.code l.body.max_stack l.at l.height answer → Checks l.body.code l.body.max_stack 0 0 answer;
}

abbrev pub decreases-loop-at : goal.decreases-loop-at
decreases-loop-at l = length l.code - l.at
