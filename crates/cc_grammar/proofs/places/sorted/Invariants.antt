use Rattle.std.proofs.Common.{◌≡◌, take}
use Rattle.cc_tree.specs.CollectedNames.{collected}
use Rattle.cc_tree.specs.Terminals.{classify}
use Rattle.cc_grammar.specs.Reading.{classified}
use Rattle.cc_grammar.proofs.places.sorted.Given as goal

abbrev pub invariant-loop-token : goal.invariant-loop-token
invariant-loop-token l = classified l.sorted.items ≡ classify (collected l.names.tokens.now) (take l.token-index l.tokens)
