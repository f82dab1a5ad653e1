use Rattle.std.proofs.Common.{◌≡◌, length, map}
use Rattle.cc_tree.specs.Terminals.{is_among}
use Rattle.cc_tree.specs.declared.word.TheConstants.{OUTSIDE_WORDS}
use Rattle.cc_terminals.proofs.terminal.is_among_outside.Given as goal

abbrev pub invariant-words : goal.invariant-words
invariant-words l = is_among (map (λ outside. outside.now) l.rest) l.word ≡ is_among (map (λ outside. outside.now) OUTSIDE_WORDS) l.word

abbrev pub decreases-words : goal.decreases-words
decreases-words l = length l.rest
