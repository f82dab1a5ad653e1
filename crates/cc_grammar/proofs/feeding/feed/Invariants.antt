use Rattle.std.proofs.Common.{◌≡◌, ◌+◌}
use Rattle.cc_grammar.specs.Depths.{measures, Carry}
use Rattle.cc_grammar.specs.Turns.{feds}
use Rattle.cc_grammar.specs.Weight.{owed, due}
use Rattle.cc_grammar.proofs.Going.{Feeding}
use Rattle.cc_grammar.proofs.feeding.feed.Given as goal

abbrev pub invariant-loop-one : goal.invariant-loop-one
invariant-loop-one l =
    Feeding l.initial.symbols l.initial.values (feds l.initial.pending) l.symbols l.values (feds l.pending) × (l.heights ≡ measures l.values) × Carry l.pending

abbrev pub decreases-loop-one : goal.decreases-loop-one
decreases-loop-one l = owed l.symbols + due (feds l.pending)
