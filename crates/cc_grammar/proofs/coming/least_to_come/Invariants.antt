use Rattle.std.proofs.Common.{◌≡◌, ◌≤◌, length}
use Rattle.cc_grammar_laws.specs.Heights.{heights, least_to_come}
use Rattle.cc_grammar.specs.Depths.{capped, from_top}
use Rattle.cc_grammar.proofs.coming.least_to_come.Given as goal

abbrev pub invariant-loop-left : goal.invariant-loop-left
invariant-loop-left l =
    (l.left ≤ length l.items) × (capped (least_to_come (from_top l.left l.items) (heights l.waiting l.stack)) ≡ capped (least_to_come l.symbols (heights 0 l.heights)))

abbrev pub decreases-loop-left : goal.decreases-loop-left
decreases-loop-left l = l.left
