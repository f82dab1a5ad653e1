use Rattle.std.proofs.Common.{◌≡◌, length}
use Rattle.cc_grammar.specs.Parse.{end_after, end_of}
use Rattle.cc_grammar.proofs.places.end_of.Given as goal

abbrev pub invariant-tokens : goal.invariant-tokens
invariant-tokens l = end_after l.end l.rest ≡ end_of l.tokens

abbrev pub decreases-tokens : goal.decreases-tokens
decreases-tokens l = length l.rest
