use Rattle.std.proofs.Common.{◌≡◌, ◌+◌, length, false}
use Rattle.cc_tree.specs.Quotes.{closing}
use Rattle.cc_lexer.proofs.quotes.closing.Given as goal

-- the place of the quote, found from the rest on, is that found from the start
abbrev pub invariant-bytes : goal.invariant-bytes
invariant-bytes l = (closing l.quote l.escaped l.at l.rest ≡ closing l.quote false 0 l.bytes) × (l.at + length l.rest ≡ length l.bytes)

abbrev pub decreases-bytes : goal.decreases-bytes
decreases-bytes l = length l.rest
