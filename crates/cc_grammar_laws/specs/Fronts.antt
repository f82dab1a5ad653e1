-- Where the machine still expects something, the tokens before are a front.
use Rattle.std.specs.Prelude.{◌≡◌, List, ◌++◌, map, true, codes}
use Rattle.cc_tree.specs.declared.token.Token.{Token}
use Rattle.cc_tree.specs.CollectedNames.{collected}
use Rattle.cc_tree.specs.Terminals.{Names, classify, is_among}
use Rattle.cc_tree.specs.GrammarUnit.{Front}
use Rattle.cc_table.specs.declared.symbols.Symbol.{Symbol}
use Rattle.cc_pushdown.specs.declared.value.Value.{Value}
use Rattle.cc_pushdown.specs.Machine.{feed, At, Comes, start}

-- Tokens after which the machine still expects something, whatever follows, are completed by some tokens. Where a type must be named, it is `String`, a type of the library.
abbrev pub FrontBefore : Type 0
FrontBefore = (names : Names) (tokens : List Token) (more : List Symbol) (vs : List Value) → is_among names.types (codes "String") ≡ true
    → ((rest : List Token) → Comes (start (classify names (tokens ++ rest))) (At more vs (map feed (classify names rest)))) → Front names tokens

-- Each source collects it.
abbrev pub StringIsCollected : Type 0
StringIsCollected = (tokens : List Token) → is_among (collected tokens).types (codes "String") ≡ true

-- So it is over the names that any source collects.
abbrev pub FrontOfSource : Type 0
FrontOfSource = (source tokens : List Token) (more : List Symbol) (vs : List Value)
    → ((rest : List Token) → Comes (start (classify (collected source) (tokens ++ rest))) (At more vs (map feed (classify (collected source) rest)))) → Front (collected source) tokens
