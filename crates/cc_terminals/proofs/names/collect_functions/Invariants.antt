use Rattle.std.proofs.Common.{ℕ, List, ◌≡◌, ◌||◌, length}
use Rattle.cc_tree.specs.CollectedNames.{collected}
use Rattle.cc_tree.specs.Terminals.{is_among}
use Rattle.cc_terminals.specs.Words.{holds, words_of}
use Rattle.cc_terminals.proofs.Collected.{awaits}
use Rattle.cc_terminals.proofs.names.collect_functions.Given as goal

abbrev pub invariant-tokens : goal.invariant-tokens
invariant-tokens l = (word : List ℕ) → (awaits l.awaited (words_of l.before) l.rest word || holds l.functions word) ≡ is_among (collected l.tokens).functions word

abbrev pub decreases-tokens : goal.decreases-tokens
decreases-tokens l = length l.rest
