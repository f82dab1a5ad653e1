-- Each source has a reading: each piece that is read has at least one byte.
use Rattle.std.proofs.Common.{◌≡◌, ℕ, zero, suc, ◌+◌, ◌<◌, ◌≤◌, Bool, true, false, ◌&&◌, ◌||◌, cond, nat_eq, nat_lt, nat_le, List, [], ◌∷◌, length, take, drop, slice_index, codes, Option, Some, None, Ok, refl, sym, subst, arith}
use Rattle.std.proofs.lemmas.Bool.{and_parts, eqb-true, false≢true}
use Rattle.std.proofs.lemmas.List.{length-take, length-drop}
use Rattle.std.specs.List.{prefix_len, starts_with}
use Rattle.std.specs.Char.{is_ascii_digit, is_digit}
use Rattle.std.specs.Str.{is_utf8}
use Rattle.std.specs.Str.Parse.{digits_value}
use Rattle.bstr.specs.Utf8.{decoded}
use Rattle.cc_tree.specs.declared.piece.Element.{Element}
use Rattle.cc_tree.specs.declared.piece.Element.TheVariants.{One, Pair, BadByte, BadEscape}
use Rattle.cc_tree.specs.declared.piece.Numeral.{Numeral}
use Rattle.cc_tree.specs.declared.piece.Numeral.TheVariants.{Value, Malformed, TooWide}
use Rattle.cc_tree.specs.declared.piece.Piece.{Piece}
use Rattle.cc_tree.specs.declared.piece.Piece.TheVariants.{Gap, Word, Number, Sign}
use Rattle.cc_tree.specs.Digits.{is_word_byte, digit_count}
use Rattle.cc_tree.specs.Numbers.{numeral}
use Rattle.cc_tree.specs.Escapes.{encoded, numeric, letter, lettered, escape, character, element}
use Rattle.cc_tree.specs.Gaps.{is_on_line, is_blank, comment_len}
use Rattle.cc_tree.specs.Directives.{read_len}
use Rattle.cc_tree.specs.Signs.{sign_number}
use Rattle.cc_tree.specs.Quotes.{Units, Decodes, ends, unit, pair, bad_byte, bad_escape, closing}
use Rattle.cc_tree.specs.Pieces.{is_number_byte, number_piece, number, checked, directive_piece, directive, line_comment, block_comment, is_quote, quoted_piece, quoted, signed, sign, begins_wide, token, piece}
use Rattle.cc_lexer.proofs.Utf8.{decoded_within}

-- a piece that is read has at least one byte
abbrev pub Moves : Piece → Type 0
Moves (Gap n line_start) = 0 < n
Moves (Word n) = 0 < n
Moves (Number value suffix radix n) = 0 < n
Moves (Sign number n) = 0 < n
Moves other = Unit {0}

choice : {X : Type 0} (P : X → Type 0) (c : Bool) (x y : X) → (c ≡ true → P x) → (c ≡ false → P y) → P (cond c x y)
choice P true x y h k = h refl
choice P false x y h k = k refl

some_pass : (p : ℕ → Bool) (bytes : List ℕ) → 0 < length bytes → p (slice_index bytes 0) ≡ true → 0 < prefix_len p bytes
some_pass p [] h e = absurd (omega (arith, h))
some_pass p (b ∷ bytes) h e = rw e (omega arith)

number_piece_moves : (n : ℕ) (q : Numeral) → 0 < n → Moves (number_piece n q)
number_piece_moves n (Value value suffix radix) h = h
number_piece_moves n Malformed h = tt
number_piece_moves n TooWide h = tt

number_moves : (bytes : List ℕ) → 0 < length bytes → is_number_byte (slice_index bytes 0) ≡ true → Moves (number bytes)
unfolding number
number_moves bytes h e = number_piece_moves (prefix_len is_number_byte bytes) (numeral (take (prefix_len is_number_byte bytes) bytes)) (some_pass is_number_byte bytes h e)

checked_moves : (bytes : List ℕ) (q : Piece) → Moves q → Moves (checked bytes q)
unfolding checked
checked_moves bytes q h = choice Moves (is_utf8 bytes) q _ (λ e. h) (λ e. tt)

directive_piece_moves : (line : List ℕ) (n : Option ℕ) → 0 < length line → Moves (directive_piece line n)
directive_piece_moves line None h = tt
directive_piece_moves line (Some n) h = checked_moves (take n line) (Gap (length line) true) h

directive_moves : (bytes : List ℕ) → 0 < length bytes → is_on_line (slice_index bytes 0) ≡ true → Moves (directive bytes)
unfolding directive
directive_moves bytes h e =
    directive_piece_moves (take (prefix_len is_on_line bytes) bytes) (read_len (take (prefix_len is_on_line bytes) bytes))
    (omega (arith, length-take (prefix_len is_on_line bytes) bytes, some_pass is_on_line bytes h e, h))

line_comment_moves : (bytes : List ℕ) (line_start : Bool) → 0 < length bytes → is_on_line (slice_index bytes 0) ≡ true → Moves (line_comment bytes line_start)
unfolding line_comment
line_comment_moves bytes line_start h e = checked_moves (take (prefix_len is_on_line bytes) bytes) (Gap (prefix_len is_on_line bytes) line_start) (some_pass is_on_line bytes h e)

not_zero : (n : ℕ) → nat_eq n 0 ≡ false → 0 < n
not_zero zero e = absurd (false≢true (sym e))
not_zero (suc n) e = omega arith

block_comment_moves : (bytes : List ℕ) (line_start : Bool) → Moves (block_comment bytes line_start)
unfolding block_comment
block_comment_moves bytes line_start =
    choice Moves (nat_eq (comment_len bytes) 0) _ _ (λ e. tt) (λ e. checked_moves (take (comment_len bytes) bytes) _ (not_zero (comment_len bytes) e))

quoted_piece_moves : (bytes : List ℕ) (start : ℕ) (n : Option ℕ) → Moves (quoted_piece bytes start n)
quoted_piece_moves bytes start None = choice Moves (nat_eq start 0) _ _ (λ e. tt) (λ e. omega arith)
quoted_piece_moves bytes start (Some n) = choice Moves (nat_eq (slice_index bytes start) 34) _ _ (λ e. tt) (λ e. tt)

quoted_moves : (bytes : List ℕ) (start : ℕ) → Moves (quoted bytes start)
unfolding quoted
quoted_moves bytes start = quoted_piece_moves bytes start (closing (slice_index bytes start) false 0 (drop (start + 1) bytes))

signed_moves : (front : List ℕ) (found : Option ℕ) (other : Piece) → 0 < length front → Moves other → Moves (signed front found other)
signed_moves front None other h m = m
signed_moves front (Some n) other h m = h

sign_moves : (bytes : List ℕ) → 0 < length bytes → Moves (sign bytes)
unfolding sign
sign_moves bytes h =
    signed_moves (take 3 bytes) (sign_number (take 3 bytes)) _ (omega (arith, length-take 3 bytes, h))
    (signed_moves (take 2 bytes) (sign_number (take 2 bytes)) _ (omega (arith, length-take 2 bytes, h))
    (signed_moves (take 1 bytes) (sign_number (take 1 bytes)) _ (omega (arith, length-take 1 bytes, h)) tt))

digit_is_number : (b : ℕ) → is_ascii_digit b ≡ true → is_number_byte b ≡ true
digit_is_number b e = rw e refl

token_moves : (bytes : List ℕ) → 0 < length bytes → Moves (token bytes)
unfolding token
token_moves bytes h =
    choice Moves (is_ascii_digit (slice_index bytes 0)) (number bytes) _ (λ e. number_moves bytes h (digit_is_number (slice_index bytes 0) e)) (λ e.
    choice Moves (is_quote (slice_index bytes 0)) (quoted bytes 0) _ (λ e. quoted_moves bytes 0) (λ e.
    choice Moves (begins_wide bytes) (quoted bytes 1) _ (λ e. quoted_moves bytes 1) (λ e.
    choice Moves (is_word_byte (slice_index bytes 0)) (Word (prefix_len is_word_byte bytes)) (sign bytes) (λ e. some_pass is_word_byte bytes h e) (λ e.
    sign_moves bytes h))))

hash_is_on_line : (b : ℕ) (c : Bool) → (nat_eq b 35 && c) ≡ true → is_on_line b ≡ true
hash_is_on_line b c e = subst (λ x. is_on_line x ≡ true) (sym (eqb-true b 35 (and_parts (nat_eq b 35) c e).0)) refl

slash_is_on_line : (bytes : List ℕ) → starts_with nat_eq bytes (codes "//") ≡ true → is_on_line (slice_index bytes 0) ≡ true
slash_is_on_line [] e = absurd (false≢true e)
slash_is_on_line (b ∷ bytes) e = subst (λ x. is_on_line x ≡ true) (eqb-true 47 b (and_parts (nat_eq 47 b) _ e).0) refl

pub piece_moves : (bytes : List ℕ) (line_start : Bool) → 0 < length bytes → Moves (piece bytes line_start)
unfolding piece
piece_moves bytes line_start h =
    choice Moves (is_blank (slice_index bytes 0)) (Gap 1 (line_start || nat_eq (slice_index bytes 0) 10)) _ (λ e. omega arith) (λ e.
    choice Moves (nat_eq (slice_index bytes 0) 35 && line_start) (directive bytes) _ (λ e. directive_moves bytes h (hash_is_on_line (slice_index bytes 0) line_start e)) (λ e.
    choice Moves (starts_with nat_eq bytes (codes "//")) (line_comment bytes line_start) _ (λ e. line_comment_moves bytes line_start h (slash_is_on_line bytes e)) (λ e.
    choice Moves (starts_with nat_eq bytes (codes "/*")) (block_comment bytes line_start) (token bytes) (λ e. block_comment_moves bytes line_start) (λ e.
    token_moves bytes h))))

-- an element that is read has at least one byte
abbrev pub ElementMoves : Element → Type 0
ElementMoves (One u n) = 0 < n
ElementMoves (Pair high low n) = 0 < n
ElementMoves other = Unit {0}

encoded_moves : (code n : ℕ) → 0 < n → ElementMoves (encoded code n)
encoded_moves code n h = choice ElementMoves (nat_lt code 0x10000) (One code n) _ (λ e. h) (λ e. h)

numeric_moves : (radix least most limit front : ℕ) (bytes : List ℕ) → 0 < front → ElementMoves (numeric radix least most limit front bytes)
unfolding numeric
numeric_moves radix least most limit front bytes h =
    choice ElementMoves (nat_le least (digit_count radix most bytes) && nat_le (digits_value radix (take (digit_count radix most bytes) bytes)) limit) _ _
    (λ e. encoded_moves (digits_value radix (take (digit_count radix most bytes) bytes)) (front + digit_count radix most bytes) (omega (arith, h))) (λ e. tt)

lettered_moves : (found : Option ℕ) → ElementMoves (lettered found)
lettered_moves None = tt
lettered_moves (Some u) = omega arith

escape_moves : (bytes : List ℕ) → ElementMoves (escape bytes)
unfolding escape
escape_moves bytes =
    choice ElementMoves (is_digit (slice_index bytes 0) 8) (numeric 8 1 3 0xFFFF 1 bytes) _ (λ e. numeric_moves 8 1 3 0xFFFF 1 bytes (omega arith)) (λ e.
    choice ElementMoves (nat_eq (slice_index bytes 0) 120) (numeric 16 1 (length bytes) 0xFFFF 2 (drop 1 bytes)) _ (λ e. numeric_moves 16 1 (length bytes) 0xFFFF 2 (drop 1 bytes) (omega arith)) (λ e.
    choice ElementMoves (nat_eq (slice_index bytes 0) 117) (numeric 16 4 4 0xFFFF 2 (drop 1 bytes)) _ (λ e. numeric_moves 16 4 4 0xFFFF 2 (drop 1 bytes) (omega arith)) (λ e.
    choice ElementMoves (nat_eq (slice_index bytes 0) 85) (numeric 16 8 8 0x10FFFF 2 (drop 1 bytes)) (lettered (letter (slice_index bytes 0))) (λ e. numeric_moves 16 8 8 0x10FFFF 2 (drop 1 bytes) (omega arith)) (λ e.
    lettered_moves (letter (slice_index bytes 0))))))

character_moves : (code : Option ℕ) (n : ℕ) → 0 < n → ElementMoves (character code n)
character_moves None n h = tt
character_moves (Some code) n h = encoded_moves code n h

element_moves : (bytes : List ℕ) → 0 < length bytes → ElementMoves (element bytes)
unfolding element
element_moves bytes h =
    choice ElementMoves (nat_eq (slice_index bytes 0) 92 && nat_lt 1 (length bytes)) (escape (drop 1 bytes)) _ (λ e. escape_moves (drop 1 bytes)) (λ e.
    character_moves (decoded bytes).char (decoded bytes).size (omega (arith, (decoded_within bytes h).0)))

-- the reading goes on behind an element
next_decoded : (at : ℕ) (bytes : List ℕ) (e : Element) → element bytes ≡ e → ElementMoves e → 0 < length bytes
    → ((next n : ℕ) → 0 < n → (units : Units) × Decodes next (drop n bytes) units) → (units : Units) × Decodes at bytes units
next_decoded at bytes (One u n) e m h rest = let r = rest (at + n) n m in (_, unit h e r.1)
next_decoded at bytes (Pair u v n) e m h rest = let r = rest (at + n) n m in (_, pair h e r.1)
next_decoded at bytes BadByte e m h rest = (_, bad_byte h e)
next_decoded at bytes (BadEscape n) e m h rest = (_, bad_escape h e)

pub each_decodes : (most at : ℕ) (bytes : List ℕ) → length bytes ≤ most → (units : Units) × Decodes at bytes units
each_decodes most at [] h = (Ok [], ends)
each_decodes zero at (b ∷ bytes) h = absurd (omega (arith, h))
each_decodes (suc most) at (b ∷ bytes) h =
    next_decoded at (b ∷ bytes) (element (b ∷ bytes)) refl (element_moves (b ∷ bytes) (omega arith)) (omega arith)
    (λ next n m. each_decodes most next (drop n (b ∷ bytes)) (omega (arith, m, h, length-drop n (b ∷ bytes))))
