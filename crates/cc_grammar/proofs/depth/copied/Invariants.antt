use Rattle.std.proofs.Common.{◌≡◌, ◌≤◌, ◌-◌, length, take, reverse}
use Rattle.cc_grammar.proofs.depth.copied.Given as goal

abbrev pub invariant-loop-i : goal.invariant-loop-i
invariant-loop-i l = (l.i ≤ length l.items) × (l.copy ≡ reverse (take l.i l.items))

abbrev pub decreases-loop-i : goal.decreases-loop-i
decreases-loop-i l = length l.items - l.i
