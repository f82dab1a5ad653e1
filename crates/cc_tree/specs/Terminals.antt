-- The terminal symbols of the grammar, and which of them a token is (ECMA-372, 9.4).
use Rattle.std.specs.Prelude.{ℕ, zero, List, [], ◌∷◌, map, Option, Some, None, Bool, true, false, ◌||◌, cond, find, option_map, unwrap_or, slice_get, codes, nat_eq}
use Rattle.std.specs.Str.{bytes_eq}
use Rattle.std.specs.List.{starts_with}
use Rattle.cc_tree.specs.declared.token.Token.{Token}
use Rattle.cc_tree.specs.declared.token.TokenKind.{TokenKind}
use Rattle.cc_tree.specs.declared.token.TokenKind.TheVariants as k
use Rattle.cc_tree.specs.declared.token.Suffix.{Suffix}
use Rattle.cc_tree.specs.declared.token.Suffix.TheVariants as suffix
use Rattle.cc_tree.specs.declared.token.Radix.{Radix}
use Rattle.cc_tree.specs.declared.token.Radix.TheVariants as radix
use Rattle.cc_tree.specs.declared.terminal.Terminal.{Terminal}
use Rattle.cc_tree.specs.declared.terminal.Terminal.TheVariants as t
use Rattle.cc_tree.specs.declared.terminal.NameKind.{NameKind}
use Rattle.cc_tree.specs.declared.terminal.NameKind.TheVariants as n
use Rattle.cc_tree.specs.declared.terminal.ContextualWord.{ContextualWord}
use Rattle.cc_tree.specs.declared.terminal.ContextualWord.TheVariants as c
use Rattle.cc_tree.specs.declared.terminal.ReservedWord.{ReservedWord}
use Rattle.cc_tree.specs.declared.terminal.Sign.{Sign}
use Rattle.cc_tree.specs.declared.word.TheConstants.{RESERVED_WORDS, CONTEXTUAL_WORDS, OUTSIDE_WORDS, GRAMMAR_SIGNS}

-- the names that a source collects from its tokens: those of types and those of function templates
pub record Names : Type 0 where
  pub types : List (List ℕ)
  pub functions : List (List ℕ)

abbrev pub is_among : List (List ℕ) → List ℕ → Bool
is_among [] word = false
is_among (name ∷ names) word = bytes_eq name word || is_among names word

abbrev pub reserved_word : List ℕ → Option ReservedWord
reserved_word word = option_map (λ row. row.1) (find (λ row. bytes_eq row.0.now word) RESERVED_WORDS)

abbrev pub contextual_word : List ℕ → ContextualWord
contextual_word word = unwrap_or (option_map (λ row. row.1) (find (λ row. bytes_eq row.0.now word) CONTEXTUAL_WORDS)) c.Nothing

-- the words that are left out of the language
abbrev pub is_outside : List ℕ → Bool
is_outside word = is_among (map (λ outside. outside.now) OUTSIDE_WORDS) word || starts_with nat_eq word (codes "__")

abbrev pub name_kind : Names → List ℕ → NameKind
name_kind names word = cond (is_among names.types word) n.Type (cond (is_among names.functions word) n.Function n.Plain)

abbrev pub free_word : Names → List ℕ → Terminal
free_word names word = cond (is_outside word) t.Other (t.Name (name_kind names word) (contextual_word word))

abbrev pub word_or : Option ReservedWord → Terminal → Terminal
word_or None free = free
word_or (Some reserved) free = t.Word reserved

abbrev pub number_terminal : ℕ → Suffix → Radix → Terminal
number_terminal zero suffix.Plain radix.Octal = t.Zero
number_terminal _ _ _ = t.Number

abbrev pub sign_or_other : Option Sign → Terminal
sign_or_other None = t.Other
sign_or_other (Some sign) = t.Sign sign

abbrev pub terminal : Names → TokenKind → Terminal
terminal names (k.Word word) = word_or (reserved_word word) (free_word names word)
terminal names (k.Number value suffix radix) = number_terminal value suffix radix
terminal names (k.Character unit) = t.Character
terminal names (k.Literal text) = t.Literal
terminal names (k.Sign number) = sign_or_other (slice_get GRAMMAR_SIGNS number)

-- a token with its terminal symbol
pub data Classified : Type 0 where
  at : Terminal → Token → Classified

abbrev pub classify : Names → List Token → List Classified
classify names tokens = map (λ token. at (terminal names token.kind) token) tokens

-- an ID: a name that no type bears
pub data Id : Terminal → Type 0 where
  plain : {word : ContextualWord} → Id (t.Name n.Plain word)
  function : {word : ContextualWord} → Id (t.Name n.Function word)

-- the letters of a word
abbrev pub letters : TokenKind → List ℕ
letters (k.Word word) = word
letters _ = []
