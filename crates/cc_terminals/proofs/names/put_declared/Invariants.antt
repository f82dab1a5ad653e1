use Rattle.std.proofs.Common.{ℕ, List, ◌≡◌, ◌||◌, length}
use Rattle.cc_tree.specs.CollectedNames.{declared_types}
use Rattle.cc_tree.specs.Terminals.{is_among}
use Rattle.cc_terminals.specs.Words.{holds}
use Rattle.cc_terminals.proofs.names.put_declared.Given as goal

abbrev pub invariant-tokens : goal.invariant-tokens
invariant-tokens l = (word : List ℕ) → (is_among (declared_types l.rest) word || holds l.set word) ≡ (is_among (declared_types l.tokens) word || holds l.initial.set word)

abbrev pub decreases-tokens : goal.decreases-tokens
decreases-tokens l = length l.rest
