-- Which tokens are read as those that complete: the same ones, but for what the automaton does not look at.
use Rattle.std.proofs.Common.{arith, ◌≡◌, ◌≤◌, ◌∙◌, refl, ap, subst, ℕ, zero, suc, List, [], ◌∷◌, length, map}
use Rattle.std.specs.Prelude.{codes}
use Rattle.cc_base.specs.declared.text.Span.{Span}
use Rattle.cc_tree.specs.declared.token.Token.{Token}
use Rattle.cc_tree.specs.declared.token.TokenKind.{TokenKind}
use Rattle.cc_tree.specs.declared.token.TokenKind.TheVariants as k
use Rattle.cc_tree.specs.declared.identifier.Identifier.{Identifier}
use Rattle.cc_tree.specs.declared.terminal.Terminal.{Terminal}
use Rattle.cc_tree.specs.declared.terminal.Terminal.TheVariants as t
use Rattle.cc_tree.specs.declared.terminal.NameKind.{NameKind}
use Rattle.cc_tree.specs.declared.terminal.ContextualWord.{ContextualWord}
use Rattle.cc_tree.specs.declared.terminal.ReservedWord.{ReservedWord}
use Rattle.cc_tree.specs.declared.terminal.Sign.{Sign}
use Rattle.cc_tree.specs.declared.token.Suffix.TheVariants as suffix
use Rattle.cc_tree.specs.declared.token.Radix.TheVariants as radix
use Rattle.cc_tree.specs.Spans.{identifier}
use Rattle.cc_tree.specs.Terminals.{Names, Classified, at, classify, letters, terminal}
use Rattle.cc_pushdown.specs.declared.value.Numeral.{Numeral}
use Rattle.cc_pushdown.specs.declared.value.Value.{Value}
use Rattle.cc_pushdown.specs.declared.value.Value.TheVariants as v
use Rattle.cc_pushdown.specs.Values.{nowhere}
use Rattle.cc_pushdown.specs.Machine.{feed, value_of}
use Rattle.cc_grammar_laws.specs.Read.{read_value}
use Rattle.cc_grammar_laws.proofs.Stands.{Fitting, StandsToken, token, Ahead}
use Rattle.cc_grammar_laws.proofs.Tokens.{Piece, a_sign, number, id, of_type, get, within, Given, piece_terminal, piece_kind, spelled, before, token_of, fresh, fresh_some, HasString, given_of, own_kind, piece_is, tokens_of}

-- What a token is whose value is a mark, a name or a number.
abbrev OnMark : Value → (Span → Type 0) → Type 0
OnMark (v.Mark one) P = P one.span
OnMark _ P = ⊥

abbrev OnName : Value → (Identifier → Type 0) → Type 0
OnName (v.Name one) P = P one.identifier
OnName _ P = ⊥

abbrev OnNumber : Value → (Numeral → Type 0) → Type 0
OnNumber (v.Number one) P = P one
OnNumber _ P = ⊥

abbrev Marked : Terminal → List Classified → List Classified → Span → Type 0
Marked terminal ts rest span = (k : Token) × (k.span ≡ span) × (ts ≡ at terminal k ∷ rest)

word_stands : {word : ReservedWord} {value : Value} {ts rest : List Classified} → StandsToken (t.Word word) value ts rest → OnMark value (Marked (t.Word word) ts rest)
word_stands (token {k} fits) = (k, refl, refl)

sign_stands : {one : Sign} {value : Value} {ts rest : List Classified} → StandsToken (t.Sign one) value ts rest → OnMark value (Marked (t.Sign one) ts rest)
sign_stands (token {k} fits) = (k, refl, refl)

abbrev pub NamedToken : NameKind → ContextualWord → List Classified → List Classified → Identifier → Type 0
NamedToken kind word ts rest name = (k : Token) × (identifier k ≡ name) × (ts ≡ at (t.Name kind word) k ∷ rest)

name_value : {kind : NameKind} {word : ContextualWord} {value : Value} {ts rest : List Classified} → StandsToken (t.Name kind word) value ts rest → OnName value (NamedToken kind word ts rest)
name_value (token {k} fits) = (k, refl, refl)

pub name_stands : (kind : NameKind) (word : ContextualWord) (name : List ℕ) {ts rest : List Classified} → StandsToken (t.Name kind word) (value_of (t.Name kind word) (k.Word name) nowhere) ts rest → NamedToken kind word ts rest (record { name = name; span = nowhere })
name_stands kind word name h = name_value h

abbrev Numbered : Terminal → List Classified → List Classified → Numeral → Type 0
Numbered terminal ts rest one = ts ≡ at terminal (record { kind = k.Number one.value one.suffix one.radix; span = one.span }) ∷ rest

zero_case : (kind : TokenKind) (span : Span) (rest : List Classified) → Fitting t.Zero kind → OnNumber (read_value t.Zero kind span) (Numbered t.Zero (at t.Zero (record { kind = kind; span = span }) ∷ rest) rest)
zero_case (k.Number value suffix radix) span rest fits = refl
zero_case _ span rest fits = absurd fits

zero_stands : {value : Value} {ts rest : List Classified} → StandsToken t.Zero value ts rest → OnNumber value (Numbered t.Zero ts rest)
zero_stands (token {k} {rest} fits) = zero_case k.kind k.span rest fits

-- A token with these letters is the word, if there are any.
word_kind : (kind : TokenKind) (word : List ℕ) → 1 ≤ length word → letters kind ≡ word → kind ≡ k.Word word
word_kind (k.Word other) word some e = ap k.Word e
word_kind _ word some e = absurd (omega (arith, some, ap length e))

-- the tokens of pieces of which each is written somehow
abbrev Somehow : Given → Piece → List Classified → List Classified → Type 0
Somehow given piece ts rest = (kind : TokenKind) × (ts ≡ spelled given kind piece ∷ rest)

module _ (names : Names) (has : HasString names) where
  abbrev given : Given
  given = given_of names

  mark_somehow : (terminal : Terminal) {ts rest : List Classified} → Marked terminal ts rest nowhere → (kind : TokenKind) × (ts ≡ at terminal (token_of kind) ∷ rest)
  mark_somehow terminal {ts} {rest} (k, same, e) = (k.kind, e ∙ ap (λ span. at terminal (record { kind = k.kind; span = span }) ∷ rest) same)

  name_somehow : (kind : NameKind) (word : ContextualWord) (name : List ℕ) {ts rest : List Classified} → 1 ≤ length name → NamedToken kind word ts rest (record { name = name; span = nowhere }) → ts ≡ at (t.Name kind word) (token_of (k.Word name)) ∷ rest
  name_somehow kind word name {ts} {rest} some (one, same, e) =
      e ∙ ap (λ found. at (t.Name kind word) (record { kind = found; span = one.span }) ∷ rest) (word_kind one.kind name some (ap (λ q. q.name) same))
      ∙ ap (λ span. at (t.Name kind word) (record { kind = k.Word name; span = span }) ∷ rest) (ap (λ q. q.span) same)

  piece_stands : (piece : Piece) {ts rest : List Classified} → StandsToken (piece_terminal given piece) (value_of (piece_terminal given piece) (piece_kind given piece) nowhere) ts rest → Somehow given piece ts rest
  piece_stands (a_sign one) h = mark_somehow (t.Sign one) (sign_stands h)
  piece_stands number h = (k.Number 0 suffix.Plain radix.Octal, zero_stands h)
  piece_stands id h = (k.Word [], name_somehow _ given.word (fresh names) (fresh_some names) (name_value h))
  piece_stands of_type h = (k.Word [], name_somehow _ _ (codes "String") (omega arith) (name_value h))
  piece_stands get h = (k.Word [], name_somehow given.getter _ (codes "get") (omega arith) (name_value h))
  piece_stands within h = (k.Word [], name_somehow given.inner _ (codes "in") (omega arith) (name_value h))
  piece_stands _ h = mark_somehow _ (word_stands h)

  abbrev and_then : TokenKind → (ℕ → TokenKind) → ℕ → TokenKind
  and_then kind kinds zero = kind
  and_then kind kinds (suc n) = kinds n

  -- Tokens that are read as the pieces' are those pieces'.
  pub pieces_stand : (pieces : List Piece) (ts : List Classified) → Ahead (map feed (classify names (tokens_of names pieces))) ts → (kinds : ℕ → TokenKind) × (ts ≡ before given kinds pieces [])
  pieces_stand [] ts h = ((λ n. k.Word []), h)
  pieces_stand (piece ∷ pieces) ts (rest, one, h) =
      let (kinds, e) = pieces_stand pieces rest h in
      let (kind, first) = piece_stands piece (subst (λ q. StandsToken q (value_of q (own_kind names piece) nowhere) ts rest) (piece_is names has piece) one) in
      (and_then kind kinds, first ∙ ap (λ q. spelled given kind piece ∷ q) e)
