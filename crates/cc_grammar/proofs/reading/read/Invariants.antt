use Rattle.std.proofs.Common.{◌≡◌}
use Rattle.cc_grammar.specs.Depths.{measures}
use Rattle.cc_grammar.proofs.Tokens.{Reached}
use Rattle.cc_grammar.proofs.reading.read.Given as goal

abbrev pub invariant-loop-i : goal.invariant-loop-i
invariant-loop-i l = Reached l.tokens l.symbols l.values l.i × (l.heights ≡ measures l.values)
