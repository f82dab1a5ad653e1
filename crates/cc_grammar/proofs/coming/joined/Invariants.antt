use Rattle.std.proofs.Common.{◌≡◌, ◌≤◌, length}
use Rattle.cc_grammar_laws.specs.Heights.{heights, joined}
use Rattle.cc_grammar.specs.Depths.{capped, from_top}
use Rattle.cc_grammar.proofs.coming.joined.Given as goal

abbrev pub invariant-loop-left : goal.invariant-loop-left
invariant-loop-left l =
    (l.left ≤ length l.items) × (capped (joined l.tightness (from_top l.left l.items) (heights l.waiting l.heights)) ≡ capped (joined l.tightness (from_top l.count l.items) (heights l.waiting l.initial.heights)))

abbrev pub decreases-loop-left : goal.decreases-loop-left
decreases-loop-left l = l.left
