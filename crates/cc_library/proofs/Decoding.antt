-- What bytes decode to, as a relation and as a function.
use Rattle.std.proofs.Common.{◌≡◌, ℕ, zero, suc, ◌+◌, ◌-◌, ◌<◌, ◌≤◌, Bool, true, false, cond, ◌&&◌, eqb, List, [], ◌∷◌, ◌++◌, length, take, drop, Some, None, refl, sym, ap, subst, arith, append_assoc, inl, inr, ◌∙◌, length-append, length-take, length-drop}
use Rattle.std.specs.Prelude.{Option}
use Rattle.std.specs.List.{flat_map}
use Rattle.std.specs.Char.{encode_utf8, IsScalar}
use Rattle.std.specs.Char.Escape.{encode_utf16}
use Rattle.std.specs.Str.{all_scalars, chars, encode_utf8_all, IsUtf8, StartsWithNoChar}
use Rattle.std.specs.Str.Lossy.{utf8_valid_len}
use Rattle.std.proofs.Math.Seq.{take-append-add, drop-append-add}
use Rattle.std.proofs.lemmas.Bool.Decides.{nat_tests}
use Rattle.std.proofs.lemmas.List.{take_all, take-append-drop}
use Rattle.std.proofs.lemmas.Str.{chars-nil, chars_past_char, IsUtf8-append, IsUtf8-encode, IsUtf8-nil, IsUtf8-past_char, utf8_valid_len-IsUtf8, utf8_valid_len-IsValidUpTo, length-encode, len_utf8_bounds}
use Rattle.bstr.specs.Utf8.{decoded}
use Rattle.bstr.proofs.lemmas.EncodeLemmas.{decoded-encode}
use Rattle.bstr.proofs.lemmas.LossyLemmas.{utf8_valid_len-cases}
use Rattle.bstr.proofs.lemmas.SoundLemmas.{SpellsChar-decoded}
use Rattle.cc_library.specs.Texts.{Decodes, nothing, character, replaced, decoded_within, decoded_text}

-- what `decode_utf8` finds at the front of bytes

pub one_character : (bytes more : List ℕ) (c : ℕ) → (decoded bytes).char ≡ Some c → Decodes (drop (decoded bytes).size bytes) more → Decodes bytes (encode_utf16 c ++ more)
one_character bytes more c found rest =
    let spells = SpellsChar-decoded bytes c found in
    subst (λ (bs : List ℕ). Decodes bs (encode_utf16 c ++ more)) (sym spells.bytes) (character c spells.scalar rest)

pub starts_with_none : (bytes : List ℕ) → (decoded bytes).char ≡ None → StartsWithNoChar bytes
starts_with_none bytes none c rest scalar same =
    let found : (decoded bytes).char ≡ Some c = rw (same, decoded-encode c rest scalar) refl in
    cc

pub one_replaced : (bytes more : List ℕ) → 0 < length bytes → (decoded bytes).char ≡ None → Decodes (drop 1 bytes) more → Decodes bytes (0xFFFD ∷ more)
one_replaced [] more some none rest = absurd (omega (arith, some))
one_replaced (b ∷ bytes) more some none rest = replaced b (starts_with_none (b ∷ bytes) none) rest

-- the longest well-formed front of a character and bytes, and of bytes that no character begins

width_some : (c : ℕ) → 0 < length (encode_utf8 c)
width_some c = omega (arith, length-encode c, len_utf8_bounds c)

valid_len_character : (c : ℕ) (bytes : List ℕ) → IsScalar c → utf8_valid_len (encode_utf8 c ++ bytes) ≡ length (encode_utf8 c) + utf8_valid_len bytes
valid_len_character c bytes scalar =
    let w = encode_utf8 c in
    elim (utf8_valid_len-cases bytes) as (λ _. utf8_valid_len (w ++ bytes) ≡ length w + utf8_valid_len bytes) [
      | inl whole ↦
          utf8_valid_len-IsUtf8 (w ++ bytes) (IsUtf8-append w bytes (IsUtf8-encode c scalar) whole) ∙ length-append w bytes
          ∙ ap (λ (n : ℕ). length w + n) (sym (utf8_valid_len-IsUtf8 bytes whole))
      | inr part ↦ utf8_valid_len-IsValidUpTo (w ++ bytes) (length w + utf8_valid_len bytes) (record {
        short = omega (arith, length-append w bytes, part.short);
        front = subst IsUtf8 (sym (take-append-add w bytes (utf8_valid_len bytes))) (IsUtf8-append w (take (utf8_valid_len bytes) bytes) (IsUtf8-encode c scalar) part.front);
        longest = λ m beyond whole.
            let at : m ≡ length w + (m - length w) = omega arith in
            let front : take m (w ++ bytes) ≡ w ++ take (m - length w) bytes = ap (λ (k : ℕ). take k (w ++ bytes)) at ∙ take-append-add w bytes (m - length w) in
            part.longest (m - length w) (omega arith) (IsUtf8-past_char (take m (w ++ bytes)) (take (m - length w) bytes) c whole front);
      })
    ]

first_true : (x y : Bool) → (x && y) ≡ true → x ≡ true
first_true true y e = refl
first_true false y e = cc

-- no front is text where no character begins the bytes
no_front : (m : ℕ) (bytes : List ℕ) → StartsWithNoChar bytes → 0 < m → 0 < length bytes → ¬ (IsUtf8 (take m bytes))
no_front m bytes none some full whole = starts whole.0 whole.1.0 whole.1.1
  where
    starts : (cs : List ℕ) → all_scalars cs ≡ true → encode_utf8_all cs ≡ take m bytes → ⊥
    starts [] scalars same = absurd (omega (arith, ap (λ (l : List ℕ). length l) same, length-take m bytes))
    starts (c ∷ cs) scalars same =
        none c (encode_utf8_all cs ++ drop m bytes) (first_true _ _ scalars)
        (sym (take-append-drop m bytes) ∙ ap (λ (l : List ℕ). l ++ drop m bytes) (sym same) ∙ append_assoc (encode_utf8 c) (encode_utf8_all cs) (drop m bytes))

valid_len_none : (b : ℕ) (bytes : List ℕ) → StartsWithNoChar (b ∷ bytes) → utf8_valid_len (b ∷ bytes) ≡ 0
valid_len_none b bytes none = utf8_valid_len-IsValidUpTo (b ∷ bytes) 0 (record {
  short = omega arith;
  front = IsUtf8-nil;
  longest = λ m above. no_front m (b ∷ bytes) none above (omega arith);
})

front_valid : (bytes : List ℕ) → IsUtf8 (take (utf8_valid_len bytes) bytes)
front_valid bytes = elim (utf8_valid_len-cases bytes) [
  | inl whole ↦ subst IsUtf8 (sym (take_all (utf8_valid_len bytes) bytes (omega (arith, utf8_valid_len-IsUtf8 bytes whole)))) whole
  | inr part ↦ part.front
]

-- the function at a character, and at a byte that begins none

-- the bytes with which the function goes on behind the front of n bytes
behind : ℕ → ℕ → List ℕ → List ℕ
behind k n bytes = cond (eqb n (length bytes)) [] (0xFFFD ∷ decoded_within k (drop (suc n) bytes))

within_step : (k : ℕ) (bytes : List ℕ) → decoded_within (suc k) bytes ≡ flat_map encode_utf16 (chars (take (utf8_valid_len bytes) bytes)) ++ behind k (utf8_valid_len bytes) bytes
unfolding decoded_within behind
within_step k bytes = refl

same_test : (w n m : ℕ) → eqb (w + n) (w + m) ≡ eqb n m
same_test w n m = grind (arith, nat_tests)

behind_character : (k n : ℕ) (w bytes : List ℕ) → behind k (length w + n) (w ++ bytes) ≡ behind k n bytes
unfolding behind
behind_character k n w bytes =
    let test : eqb (length w + n) (length (w ++ bytes)) ≡ eqb n (length bytes) = ap (λ (m : ℕ). eqb (length w + n) m) (length-append w bytes) ∙ same_test (length w) n (length bytes) in
    let at : suc (length w + n) ≡ length w + suc n = omega arith in
    let rest : drop (suc (length w + n)) (w ++ bytes) ≡ drop (suc n) bytes = ap (λ (m : ℕ). drop m (w ++ bytes)) at ∙ drop-append-add w bytes (suc n) in
    ap (λ (t : Bool). cond t [] (0xFFFD ∷ decoded_within k (drop (suc (length w + n)) (w ++ bytes)))) test
    ∙ ap (λ (l : List ℕ). cond (eqb n (length bytes)) [] (0xFFFD ∷ decoded_within k l)) rest

within_character : (k c : ℕ) (bytes : List ℕ) → IsScalar c → decoded_within (suc k) (encode_utf8 c ++ bytes) ≡ encode_utf16 c ++ decoded_within (suc k) bytes
within_character k c bytes scalar =
    let w = encode_utf8 c in
    let n = utf8_valid_len bytes in
    let front = take n bytes in
    let text : chars (w ++ front) ≡ c ∷ chars front = chars_past_char (w ++ front) front c (IsUtf8-append w front (IsUtf8-encode c scalar) (front_valid bytes)) refl in
    within_step k (w ++ bytes)
    ∙ ap (λ (m : ℕ). flat_map encode_utf16 (chars (take m (w ++ bytes))) ++ behind k m (w ++ bytes)) (valid_len_character c bytes scalar)
    ∙ ap (λ (l : List ℕ). flat_map encode_utf16 (chars l) ++ behind k (length w + n) (w ++ bytes)) (take-append-add w bytes n)
    ∙ ap (λ (l : List ℕ). flat_map encode_utf16 l ++ behind k (length w + n) (w ++ bytes)) text
    ∙ append_assoc (encode_utf16 c) (flat_map encode_utf16 (chars front)) (behind k (length w + n) (w ++ bytes))
    ∙ ap (λ (l : List ℕ). encode_utf16 c ++ (flat_map encode_utf16 (chars front) ++ l)) (behind_character k n w bytes)
    ∙ ap (λ (l : List ℕ). encode_utf16 c ++ l) (sym (within_step k bytes))

some_left : (n : ℕ) → eqb 0 (suc n) ≡ false
some_left n = grind (arith, nat_tests)

within_replaced : (k b : ℕ) (bytes : List ℕ) → StartsWithNoChar (b ∷ bytes) → decoded_within (suc k) (b ∷ bytes) ≡ 0xFFFD ∷ decoded_within k bytes
unfolding behind
within_replaced k b bytes none =
    within_step k (b ∷ bytes)
    ∙ ap (λ (m : ℕ). flat_map encode_utf16 (chars (take m (b ∷ bytes))) ++ behind k m (b ∷ bytes)) (valid_len_none b bytes none)
    ∙ ap (λ (l : List ℕ). flat_map encode_utf16 l ++ behind k 0 (b ∷ bytes)) chars-nil
    ∙ ap (λ (t : Bool). cond t [] (0xFFFD ∷ decoded_within k bytes)) (some_left (length bytes))

within_nothing : (k : ℕ) → decoded_within (suc k) [] ≡ []
unfolding behind
within_nothing k =
    within_step k [] ∙ ap (λ (m : ℕ). flat_map encode_utf16 (chars (take m [])) ++ behind k m []) (utf8_valid_len-IsUtf8 [] IsUtf8-nil)
    ∙ ap (λ (l : List ℕ). flat_map encode_utf16 l ++ behind k 0 []) chars-nil

-- the function gives whatever the bytes decode to, with k enough

after_replaced : (k b : ℕ) (bytes text : List ℕ) → StartsWithNoChar (b ∷ bytes) → length bytes < k → ((j : ℕ) → length bytes ≤ j → decoded_within (suc j) bytes ≡ text)
    → decoded_within (suc k) (b ∷ bytes) ≡ 0xFFFD ∷ text
after_replaced zero b bytes text none enough rest = absurd (omega arith)
after_replaced (suc k) b bytes text none enough rest = within_replaced (suc k) b bytes none ∙ ap (λ (l : List ℕ). 0xFFFD ∷ l) (rest k (omega arith))

within_decodes : {bytes text : List ℕ} → Decodes bytes text → (k : ℕ) → length bytes ≤ k → decoded_within (suc k) bytes ≡ text
within_decodes nothing k enough = within_nothing k
within_decodes (character c {bytes = bytes} scalar rest) k enough =
    within_character k c bytes scalar
    ∙ ap (λ (l : List ℕ). encode_utf16 c ++ l) (within_decodes rest k (omega (arith, length-append (encode_utf8 c) bytes)))
within_decodes (replaced b {bytes = bytes} {units = units} none rest) k enough =
    after_replaced k b bytes units none (omega arith) (λ j fits. within_decodes rest j fits)

pub text_is : (bytes text : List ℕ) → Decodes bytes text → decoded_text bytes ≡ text
text_is bytes text decodes = within_decodes decodes (length bytes) (omega arith)

-- all bytes decode to some text

abbrev Some_text : List ℕ → Type 0
Some_text bytes = (text : List ℕ) × Decodes bytes text

decoding_by : (bytes : List ℕ) (char : Option ℕ) → (decoded bytes).char ≡ char → 0 < length bytes → ((rest : List ℕ) → length rest < length bytes → Some_text rest) → Some_text bytes
decoding_by bytes None none some shorter =
    let rest = shorter (drop 1 bytes) (omega (arith, length-drop 1 bytes)) in
    (0xFFFD ∷ rest.0, one_replaced bytes rest.0 some none rest.1)
decoding_by bytes (Some c) found some shorter =
    let spells = SpellsChar-decoded bytes c found in
    let n = (decoded bytes).size in
    let rest = shorter (drop n bytes) (omega (arith, width_some c, spells.width, length-drop n bytes)) in
    (encode_utf16 c ++ rest.0, one_character bytes rest.0 c found rest.1)

decoding : (k : ℕ) (bytes : List ℕ) → length bytes < k → Some_text bytes
decoding zero bytes short = absurd (omega arith)
decoding (suc k) [] short = ([], nothing)
decoding (suc k) (b ∷ bytes) short = decoding_by (b ∷ bytes) (decoded (b ∷ bytes)).char refl (omega arith) (λ rest less. decoding k rest (omega arith))

pub decodes_to_text : (bytes text : List ℕ) → decoded_text bytes ≡ text → Decodes bytes text
decodes_to_text bytes text same =
    let some = decoding (suc (length bytes)) bytes (omega arith) in
    subst (λ (l : List ℕ). Decodes bytes l) (sym (text_is bytes some.0 some.1) ∙ same) some.1
