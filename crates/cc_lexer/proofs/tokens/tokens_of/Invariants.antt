use Rattle.std.proofs.Common.{◌≡◌, ◌≤◌, ◌+◌, length}
use Rattle.cc_lexer.proofs.Lexing.{GoesOn}
use Rattle.cc_lexer.proofs.tokens.tokens_of.Given as goal

abbrev pub invariant-pieces : goal.invariant-pieces
invariant-pieces l = GoesOn l.source l.tokens l.line_start l.at l.rest × (l.at + length l.rest ≡ length l.source) × (length l.tokens ≤ l.at)

abbrev pub decreases-pieces : goal.decreases-pieces
decreases-pieces l = length l.rest
