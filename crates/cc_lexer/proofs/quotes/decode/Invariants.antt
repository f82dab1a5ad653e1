use Rattle.std.proofs.Common.{◌≡◌, ◌+◌, length}
use Rattle.cc_lexer.proofs.Decoding.{GoesOn}
use Rattle.cc_lexer.proofs.quotes.decode.Given as goal

abbrev pub invariant-elements : goal.invariant-elements
invariant-elements l = GoesOn l.body l.units l.at l.rest × (l.at + length l.rest ≡ length l.body)

abbrev pub decreases-elements : goal.decreases-elements
decreases-elements l = length l.rest
