use Rattle.std.proofs.Common.{◌≡◌, max, drop}
use Rattle.cc_grammar_laws.specs.Heights.{tallest}
use Rattle.cc_grammar.proofs.depth.take_tallest.Given as goal

abbrev pub invariant-loop-left : goal.invariant-loop-left
invariant-loop-left l =
    (max l.greatest (tallest l.left l.heights) ≡ tallest l.count l.initial.heights) × (drop l.left l.heights ≡ drop l.count l.initial.heights)

abbrev pub decreases-loop-left : goal.decreases-loop-left
decreases-loop-left l = l.left
