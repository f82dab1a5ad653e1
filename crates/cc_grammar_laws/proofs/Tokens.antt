-- Tokens that go on with what was begun: one for each terminal symbol that is wanted, over all collected names.
use Rattle.std.proofs.Common.{arith, ◌≡◌, ◌≤◌, refl, sym, ap, subst, true≢false, ℕ, zero, suc, ◌+◌, List, [], ◌∷◌, ◌++◌, length, Bool, true, false, None}
use Rattle.std.specs.Prelude.{◌||◌, cond, codes, map, Option, Some}
use Rattle.std.specs.Str.{bytes_eq}
use Rattle.std.proofs.lemmas.Slice.Eq.{bytes_eq-Decides}
use Rattle.cc_tree.specs.declared.token.Token.{Token}
use Rattle.cc_tree.specs.declared.token.TokenKind.{TokenKind}
use Rattle.cc_tree.specs.declared.token.TokenKind.TheVariants as k
use Rattle.cc_tree.specs.declared.terminal.Terminal.{Terminal}
use Rattle.cc_tree.specs.declared.terminal.Terminal.TheVariants as t
use Rattle.cc_tree.specs.declared.terminal.NameKind.TheVariants as n
use Rattle.cc_tree.specs.declared.terminal.ReservedWord.TheVariants as w
use Rattle.cc_tree.specs.declared.terminal.Sign.TheVariants as s
use Rattle.cc_tree.specs.declared.terminal.NameKind.{NameKind}
use Rattle.cc_tree.specs.declared.terminal.ContextualWord.{ContextualWord}
use Rattle.cc_tree.specs.declared.terminal.ContextualWord.TheVariants as c
use Rattle.cc_tree.specs.declared.terminal.Sign.{Sign}
use Rattle.cc_tree.specs.declared.token.Suffix.TheVariants as suffix
use Rattle.cc_tree.specs.declared.token.Radix.TheVariants as radix
use Rattle.cc_tree.specs.declared.expression.BinaryOperator.{BinaryOperator}
use Rattle.cc_tree.specs.Operators.{binary_operator, sign, shift_right}
use Rattle.cc_tree.specs.GrammarStatements.{NoLabel}
use Rattle.cc_tree.specs.Terminals.{Names, Classified, at, word_or, free_word, is_among, terminal, reserved_word, contextual_word, is_outside, name_kind}
use Rattle.cc_table.specs.Same.{sign_number}
use Rattle.cc_grammar_laws.proofs.ExpressionParts.{Stops}
use Rattle.cc_grammar_laws.proofs.AbleSymbols.{Start, rough, calm, thin, begun}

-- a token without a place
abbrev pub token_of : TokenKind → Token
token_of kind = record { kind = kind; span = record { first = 0; past = 0 } }

-- the letters of all words together
abbrev letters_in : List (List ℕ) → ℕ
letters_in [] = 0
letters_in (word ∷ words) = length word + letters_in words

-- a word of the letter z alone
abbrev pub repeated : ℕ → List ℕ
repeated zero = 122 ∷ []
repeated (suc count) = 122 ∷ repeated count

repeated_length : (count : ℕ) → length (repeated count) ≡ suc count
repeated_length zero = refl
repeated_length (suc count) = ap suc (repeated_length count)

abbrev pub fresh : Names → List ℕ
fresh names = repeated (letters_in names.types + letters_in names.functions)

pub fresh_some : (names : Names) → 1 ≤ length (fresh names)
fresh_some names = omega (arith, repeated_length (letters_in names.types + letters_in names.functions))

-- A word that is longer than all of these together is none of them.
longer : (word : List ℕ) (count : ℕ) → length word ≤ count → bytes_eq word (repeated count) ≡ false
longer word count h = not_equal (bytes_eq word (repeated count)) refl
  where
    not_equal : (found : Bool) → bytes_eq word (repeated count) ≡ found → bytes_eq word (repeated count) ≡ false
    not_equal false e = e
    not_equal true e = absurd (omega (arith, h, ap length ((bytes_eq-Decides word (repeated count)).0 e), repeated_length count))

fresh_in : (words : List (List ℕ)) (count : ℕ) → letters_in words ≤ count → is_among words (repeated count) ≡ false
fresh_in [] count h = refl
fresh_in (word ∷ words) count h =
    subst (λ b. (b || is_among words (repeated count)) ≡ false) (sym (longer word count (omega (arith, h)))) (fresh_in words count (omega (arith, h)))

free_letters : (count : ℕ) → is_outside (repeated count) ≡ false
free_letters zero = refl
free_letters (suc count) = refl

not_reserved : (count : ℕ) → reserved_word (repeated count) ≡ None
not_reserved zero = refl
not_reserved (suc count) = refl

plain_kind : (names : Names) → name_kind names (fresh names) ≡ n.Plain
plain_kind names =
    subst (λ b. cond b n.Type (cond (is_among names.functions (fresh names)) n.Function n.Plain) ≡ n.Plain) (sym (fresh_in names.types _ (omega arith)))
    (subst (λ b. cond b n.Function n.Plain ≡ n.Plain) (sym (fresh_in names.functions _ (omega arith))) refl)

-- The word is an ID: a name that no type bears.
pub fresh_name : (names : Names) → terminal names (k.Word (fresh names)) ≡ t.Name n.Plain (contextual_word (fresh names))
fresh_name names =
    subst (λ r. word_or r (free_word names (fresh names)) ≡ t.Name n.Plain (contextual_word (fresh names))) (sym (not_reserved _))
    (subst (λ b. cond b t.Other (t.Name (name_kind names (fresh names)) (contextual_word (fresh names))) ≡ t.Name n.Plain (contextual_word (fresh names))) (sym (free_letters _))
    (ap (λ kind. t.Name kind (contextual_word (fresh names))) (plain_kind names)))

-- the tokens that the least completions are made of
pub data Piece : Type 0 where
  a_sign : Sign → Piece
  int : Piece
  long : Piece
  class_ : Piece
  enum_ : Piece
  while_ : Piece
  namespace_ : Piece
  using_ : Piece
  else_ : Piece
  catch_ : Piece
  finally_ : Piece
  default_ : Piece
  public_ : Piece
  number : Piece
  id : Piece
  of_type : Piece
  get : Piece
  within : Piece

-- the name that is no other, and of which kind the words `get` and `in` are
pub record Given : Type 0 where
  pub word : ContextualWord
  pub name : Token
  pub getter : NameKind
  pub inner : NameKind

abbrev pub piece_terminal : Given → Piece → Terminal
piece_terminal given (a_sign one) = t.Sign one
piece_terminal given int = t.Word w.Int
piece_terminal given long = t.Word w.Long
piece_terminal given class_ = t.Word w.Class
piece_terminal given enum_ = t.Word w.Enum
piece_terminal given while_ = t.Word w.While
piece_terminal given namespace_ = t.Word w.Namespace
piece_terminal given using_ = t.Word w.Using
piece_terminal given else_ = t.Word w.Else
piece_terminal given catch_ = t.Word w.Catch
piece_terminal given finally_ = t.Word w.Finally
piece_terminal given default_ = t.Word w.Default
piece_terminal given public_ = t.Word w.Public
piece_terminal given number = t.Zero
piece_terminal given id = t.Name n.Plain given.word
piece_terminal given of_type = t.Name n.Type c.Nothing
piece_terminal given get = t.Name given.getter c.Get
piece_terminal given within = t.Name given.inner c.In

abbrev pub piece_kind : Given → Piece → TokenKind
piece_kind given (a_sign one) = k.Sign (sign_number one)
piece_kind given int = k.Word (codes "int")
piece_kind given long = k.Word (codes "long")
piece_kind given class_ = k.Word (codes "class")
piece_kind given enum_ = k.Word (codes "enum")
piece_kind given while_ = k.Word (codes "while")
piece_kind given namespace_ = k.Word (codes "namespace")
piece_kind given using_ = k.Word (codes "using")
piece_kind given else_ = k.Word (codes "else")
piece_kind given catch_ = k.Word (codes "catch")
piece_kind given finally_ = k.Word (codes "finally")
piece_kind given default_ = k.Word (codes "default")
piece_kind given public_ = k.Word (codes "public")
piece_kind given number = k.Number 0 suffix.Plain radix.Octal
piece_kind given id = given.name.kind
piece_kind given of_type = k.Word (codes "String")
piece_kind given get = k.Word (codes "get")
piece_kind given within = k.Word (codes "in")

-- The token of a piece: of signs and reserved words only the place counts.
abbrev pub piece_token : Given → TokenKind → Piece → Token
piece_token given kind number = token_of (piece_kind given number)
piece_token given kind id = given.name
piece_token given kind of_type = token_of (piece_kind given of_type)
piece_token given kind get = token_of (piece_kind given get)
piece_token given kind within = token_of (piece_kind given within)
piece_token given kind piece = token_of kind

abbrev pub spelled : Given → TokenKind → Piece → Classified
spelled given kind piece = at (piece_terminal given piece) (piece_token given kind piece)

-- these pieces before other tokens, of these kinds
abbrev pub before : Given → (ℕ → TokenKind) → List Piece → List Classified → List Classified
before given kinds [] ts = ts
before given kinds (piece ∷ pieces) ts = spelled given (kinds 0) piece ∷ before given (λ n. kinds (suc n)) pieces ts

abbrev pub past : List Piece → (ℕ → TokenKind) → ℕ → TokenKind
past [] kinds = kinds
past (piece ∷ pieces) kinds = past pieces (λ n. kinds (suc n))

pub before_both : (given : Given) (kinds : ℕ → TokenKind) (pieces others : List Piece) (ts : List Classified) → before given kinds (pieces ++ others) ts ≡ before given kinds pieces (before given (past pieces kinds) others ts)
before_both given kinds [] others ts = refl
before_both given kinds (piece ∷ pieces) others ts = ap (λ q. spelled given (kinds 0) piece ∷ q) (before_both given (λ n. kinds (suc n)) pieces others ts)

-- No operator between operands and no label begins the tokens.
abbrev pub IsNoOperator : Option BinaryOperator → Type 0
IsNoOperator None = Unit {0}
IsNoOperator (Some operator) = ⊥

abbrev pub MildTerminal : Terminal → Type 0
MildTerminal (t.Word w.Case) = ⊥
MildTerminal (t.Word w.Default) = ⊥
MildTerminal (t.Sign one) = IsNoOperator (binary_operator one)
MildTerminal _ = Unit {0}

abbrev pub Mild : List Classified → Type 0
Mild [] = Unit {0}
Mild (at terminal k ∷ ts) = MildTerminal terminal

pub mild_stops : (n : ℕ) (ts : List Classified) → Mild ts → Stops n ts
mild_stops n ts m operator us (sign e) = absurd (subst (λ q. IsNoOperator q) e m)
mild_stops n ts m operator us (shift_right e) = absurd m

pub mild_label : (ts : List Classified) → Mild ts → NoLabel ts
mild_label [] m = tt
mild_label (at (t.Word w.Case) k ∷ rest) m = m
mild_label (at (t.Word w.Default) k ∷ rest) m = m
mild_label _ m = tt

-- how pieces begin
abbrev pub BeginsAs : Given → Start → List Piece → Type 0
BeginsAs given rough pieces = Unit {0}
BeginsAs given calm [] = ⊥
BeginsAs given thin [] = Unit {0}
BeginsAs given calm (piece ∷ pieces) = MildTerminal (piece_terminal given piece)
BeginsAs given thin (piece ∷ pieces) = MildTerminal (piece_terminal given piece)

pub mild_before : (given : Given) (kinds : ℕ → TokenKind) (start : Start) (pieces : List Piece) (ts : List Classified) (behind : Bool) → BeginsAs given start pieces → begun start behind ≡ true → (behind ≡ true → Mild ts) → Mild (before given kinds pieces ts)
mild_before given kinds rough pieces ts behind b h m = absurd (true≢false (sym h))
mild_before given kinds calm [] ts behind b h m = absurd b
mild_before given kinds thin [] ts behind b h m = m h
mild_before given kinds calm (piece ∷ pieces) ts behind b h m = b
mild_before given kinds thin (piece ∷ pieces) ts behind b h m = b

abbrev pub given_of : Names → Given
given_of names = record { word = contextual_word (fresh names); name = token_of (k.Word (fresh names)); getter = name_kind names (codes "get"); inner = name_kind names (codes "in") }

-- `String` is the name of a type.
abbrev pub HasString : Names → Type 0
HasString names = is_among names.types (codes "String") ≡ true

sign_terminal : (names : Names) (one : Sign) → terminal names (k.Sign (sign_number one)) ≡ t.Sign one
sign_terminal names s.OpenBrace = refl
sign_terminal names _ = refl

string_terminal : (names : Names) → HasString names → terminal names (k.Word (codes "String")) ≡ t.Name n.Type c.Nothing
string_terminal names h = subst (λ b. t.Name (cond b n.Type (cond (is_among names.functions (codes "String")) n.Function n.Plain)) c.Nothing ≡ t.Name n.Type c.Nothing) (sym h) refl

-- the kind of a token for a piece, over all collected names
abbrev pub own_kind : Names → Piece → TokenKind
own_kind names piece = piece_kind (given_of names) piece

pub piece_is : (names : Names) → HasString names → (piece : Piece) → terminal names (own_kind names piece) ≡ piece_terminal (given_of names) piece
piece_is names h (a_sign one) = sign_terminal names one
piece_is names h id = fresh_name names
piece_is names h of_type = string_terminal names h
piece_is names h _ = refl

abbrev pub tokens_of : Names → List Piece → List Token
tokens_of names pieces = map (λ piece. token_of (own_kind names piece)) pieces
