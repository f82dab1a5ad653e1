-- Each source has a reading.
use Rattle.std.proofs.Common.{◌≡◌, ℕ, zero, suc, ◌+◌, ◌<◌, ◌≤◌, Bool, true, false, List, [], ◌∷◌, length, take, drop, Ok, Err, inl, inr, ◌⊎◌, refl, sym, subst, le_refl, nat_lt, arith}
use Rattle.std.proofs.lemmas.Bool.{cases_Bool, ltb-true, ltb-false}
use Rattle.std.proofs.lemmas.List.{length-drop}
use Rattle.cc_base.specs.declared.kind.Kind.TheVariants as kind
use Rattle.cc_tree.specs.declared.piece.Piece.{Piece}
use Rattle.cc_tree.specs.declared.piece.Piece.TheVariants as pieces
use Rattle.cc_tree.specs.declared.token.TokenKind.TheVariants as token_kind
use Rattle.cc_tree.specs.Quotes.{Units}
use Rattle.cc_tree.specs.Refusals.{span}
use Rattle.cc_tree.specs.Pieces.{piece}
use Rattle.cc_tree.specs.Spelling.{Reading, Made, Makes, Spells, ends, gap, token, refused, body, literal, character, start_of, Spelled}
use Rattle.cc_lexer.proofs.EachSource.{Moves, piece_moves, each_decodes}

abbrev MadeMoves : Made → Type 0
MadeMoves (Ok made) = 0 < made.1
MadeMoves (Err refusal) = Unit {0}

literal_moves : (start end : ℕ) (units : Units) → MadeMoves (literal start end units)
literal_moves start end (Ok units) = omega arith
literal_moves start end (Err refusal) = tt

character_moves : (start end : ℕ) (units : Units) → MadeMoves (character start end units)
character_moves start end (Ok []) = tt
character_moves start end (Ok (u ∷ [])) = omega arith
character_moves start end (Ok (u ∷ v ∷ units)) = tt
character_moves start end (Err refusal) = tt

-- a reading from each later place on
abbrev Rest : List ℕ → Type 0
Rest bytes = (line_start : Bool) (at n : ℕ) → 0 < n → (reading : Reading) × Spells line_start at (drop n bytes) reading

made_spelled : (line_start : Bool) (at : ℕ) (bytes : List ℕ) (q : Piece) (made : Made) → piece bytes line_start ≡ q → 0 < length bytes → Makes q bytes made → MadeMoves made → Rest bytes
    → (reading : Reading) × Spells line_start at bytes reading
made_spelled line_start at bytes q (Ok made) e h m moves rest =
    let r = rest false (at + made.1) made.1 moves in
    (_, token made.0 made.1 h (subst (λ x. Makes x bytes (Ok made)) (sym e) m) r.1)
made_spelled line_start at bytes q (Err refusal) e h m moves rest = (_, refused refusal h (subst (λ x. Makes x bytes (Err refusal)) (sym e) m))

next_spelled : (line_start : Bool) (at : ℕ) (bytes : List ℕ) (q : Piece) → piece bytes line_start ≡ q → 0 < length bytes → Moves q → Rest bytes
    → (reading : Reading) × Spells line_start at bytes reading
next_spelled line_start at bytes (pieces.Gap n next) e h moves rest = let r = rest next (at + n) n moves in (_, gap h e r.1)
next_spelled line_start at bytes (pieces.Word n) e h moves rest = made_spelled line_start at bytes (pieces.Word n) (Ok (token_kind.Word (take n bytes), n)) e h refl moves rest
next_spelled line_start at bytes (pieces.Number value suffix radix n) e h moves rest =
    made_spelled line_start at bytes (pieces.Number value suffix radix n) (Ok (token_kind.Number value suffix radix, n)) e h refl moves rest
next_spelled line_start at bytes (pieces.Sign number n) e h moves rest = made_spelled line_start at bytes (pieces.Sign number n) (Ok (token_kind.Sign number, n)) e h refl moves rest
next_spelled line_start at bytes (pieces.Literal start end) e h moves rest =
    let d = each_decodes (length (body start end bytes)) 0 (body start end bytes) (le_refl _) in
    made_spelled line_start at bytes (pieces.Literal start end) (literal start end d.0) e h (d.0, d.1, refl) (literal_moves start end d.0) rest
next_spelled line_start at bytes (pieces.Character start end) e h moves rest =
    let d = each_decodes (length (body start end bytes)) 0 (body start end bytes) (le_refl _) in
    made_spelled line_start at bytes (pieces.Character start end) (character start end d.0) e h (d.0, d.1, refl) (character_moves start end d.0) rest
next_spelled line_start at bytes (pieces.Refused why place) e h moves rest =
    made_spelled line_start at bytes (pieces.Refused why place) (Err (why, place)) e h refl tt rest

each_spelled : (most : ℕ) (line_start : Bool) (at : ℕ) (bytes : List ℕ) → length bytes ≤ most → (reading : Reading) × Spells line_start at bytes reading
each_spelled most line_start at [] h = (Ok [], ends)
each_spelled zero line_start at (b ∷ bytes) h = absurd (omega (arith, h))
each_spelled (suc most) line_start at (b ∷ bytes) h =
    next_spelled line_start at (b ∷ bytes) (piece (b ∷ bytes) line_start) refl (omega arith) (piece_moves (b ∷ bytes) line_start (omega arith))
    (λ next place n m. each_spelled most next place (drop n (b ∷ bytes)) (omega (arith, m, h, length-drop n (b ∷ bytes))))

short_or_long : (n : ℕ) → (1048576 < n) ⊎ (n ≤ 1048576)
short_or_long n = elim (cases_Bool (nat_lt 1048576 n)) [ inl t ↦ inl (ltb-true 1048576 n t) | inr f ↦ inr (ltb-false 1048576 n f) ]

pub each_read : (source : List ℕ) → (reading : Reading) × Spelled source reading
each_read source =
    elim (short_or_long (length source)) [
      | inl long ↦ (Err (kind.SourceTooLong, span 1048576 1048577), inl (long, refl))
      | inr short ↦
          let r = each_spelled (length source) true (start_of source) (drop (start_of source) source) (omega (arith, length-drop (start_of source) source)) in
          (r.0, inr (short, r.1))
    ]
