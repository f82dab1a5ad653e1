use Rattle.std.proofs.Common.{ℕ, List, ◌≡◌, ◌||◌, map, drop}
use Rattle.cc_tree.specs.Terminals.{is_among}
use Rattle.cc_terminals.specs.Words.{holds}
use Rattle.cc_terminals.proofs.names.put_all.Given as goal

abbrev pub invariant-words : goal.invariant-words
invariant-words l = (word : List ℕ) → (is_among (map (λ name. name.now) (drop l.name-index l.words)) word || holds l.set word) ≡ (is_among (map (λ name. name.now) l.words) word || holds l.initial.set word)
