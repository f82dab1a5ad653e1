use Rattle.std.proofs.Common.{◌≡◌, ◌≤◌, length, take}
use Rattle.std.specs.Prelude.{reverse}
use Rattle.cc_verify.specs.Transitions.{pop_arguments}
use Rattle.cc_verify.proofs.effects.pop_arguments.Given as goal

-- the parameters from `left` on are taken
abbrev pub invariant-loop-left : goal.invariant-loop-left
invariant-loop-left l = record {
  within : l.left ≤ length l.parameters;
  rest : pop_arguments (reverse (take l.left l.parameters)) l.stack ≡ pop_arguments (reverse l.parameters) l.initial.stack;
}

abbrev pub decreases-loop-left : goal.decreases-loop-left
decreases-loop-left l = l.left
