use Rattle.std.proofs.Common.{◌≡◌}
use Rattle.cc_grammar.specs.Depths.{measures}
use Rattle.cc_grammar.specs.Weight.{visible}
use Rattle.cc_grammar.proofs.Going.{Ending}
use Rattle.cc_grammar.proofs.feeding.settle_end.Given as goal

abbrev pub invariant-loop-symbol : goal.invariant-loop-symbol
invariant-loop-symbol l = Ending l.initial.symbols l.initial.values l.symbols l.values × (l.heights ≡ measures l.values)

abbrev pub decreases-loop-symbol : goal.decreases-loop-symbol
decreases-loop-symbol l = visible l.symbols
