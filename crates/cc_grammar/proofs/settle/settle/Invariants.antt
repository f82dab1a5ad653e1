use Rattle.std.proofs.Common.{◌≡◌}
use Rattle.cc_grammar.specs.Depths.{measures}
use Rattle.cc_grammar.specs.Turns.{one_fed}
use Rattle.cc_grammar.specs.Weight.{visible}
use Rattle.cc_grammar.proofs.Going.{Going}
use Rattle.cc_grammar.proofs.settle.settle.Given as goal

abbrev pub invariant-loop-symbol : goal.invariant-loop-symbol
invariant-loop-symbol l =
    Going l.initial.symbols l.initial.values (one_fed l.one) l.symbols l.values × (l.pending ≡ l.initial.pending) × (l.heights ≡ measures l.values)

abbrev pub decreases-loop-symbol : goal.decreases-loop-symbol
decreases-loop-symbol l = visible l.symbols
