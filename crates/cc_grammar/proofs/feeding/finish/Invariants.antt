use Rattle.std.proofs.Common.{◌≡◌, []}
use Rattle.cc_pushdown.specs.Machine.{Comes, At}
use Rattle.cc_grammar.specs.Depths.{measures}
use Rattle.cc_grammar.specs.Weight.{owed}
use Rattle.cc_grammar.proofs.feeding.finish.Given as goal

abbrev pub invariant-endings : goal.invariant-endings
invariant-endings l = Comes (At l.initial.symbols l.initial.values []) (At l.symbols l.values []) × (l.heights ≡ measures l.values)

abbrev pub decreases-endings : goal.decreases-endings
decreases-endings l = owed l.symbols
