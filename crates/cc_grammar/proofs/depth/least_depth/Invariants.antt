use Rattle.std.proofs.Common.{◌≡◌, ◌≤◌, length}
use Rattle.cc_grammar_laws.specs.Heights.{heights, least_depth}
use Rattle.cc_grammar.specs.Depths.{capped, from_top}
use Rattle.cc_grammar.proofs.depth.least_depth.Given as goal

abbrev pub invariant-loop-left : goal.invariant-loop-left
invariant-loop-left l =
    (l.left ≤ length l.items) × (capped (least_depth (from_top l.left l.items) (heights l.waiting l.heights)) ≡ capped (least_depth (from_top l.count l.items) (heights l.pending l.initial.heights)))

abbrev pub decreases-loop-left : goal.decreases-loop-left
decreases-loop-left l = l.left
