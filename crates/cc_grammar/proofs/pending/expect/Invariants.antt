use Rattle.std.proofs.Common.{◌≡◌, ◌≤◌, ◌++◌, drop, length}
use Rattle.cc_grammar.proofs.pending.expect.Given as goal

abbrev pub invariant-loop-i : goal.invariant-loop-i
invariant-loop-i l = (l.i ≤ length l.part) × (l.symbols ≡ drop l.i l.part ++ l.initial.symbols)

abbrev pub decreases-loop-i : goal.decreases-loop-i
decreases-loop-i l = l.i
