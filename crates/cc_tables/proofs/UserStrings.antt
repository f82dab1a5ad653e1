-- User strings at the front of bytes, and one after the other.
use Rattle.std.proofs.Common.{◌≡◌, ℕ, zero, suc, ◌+◌, ◌-◌, ◌*◌, ◌%◌, ◌^◌, ◌<◌, ◌≤◌, List, [], ◌∷◌, ◌++◌, length, get_or, take, drop, Option, Some, None, Result, Ok, Err, refl, sym, ap, subst, ◌∙◌, append_assoc, arith}
use Rattle.std.specs.List.{flat_map, AllByRecursion}
use Rattle.std.proofs.lemmas.List.{length-append, length-take, length-drop, take-append-drop, append-nil}
use Rattle.std.proofs.lemmas.List.Concat.{flat_map-cons}
use Rattle.std.proofs.lemmas.Grind.{flat_map-append}
use Rattle.cc_layout.specs.Codes.{IsBad}
use Rattle.cc_layout.specs.Compressed.{compressed, IsCompressed}
use Rattle.cc_layout.specs.Numbers.{little_endian, AreBytes}
use Rattle.cc_layout.proofs.Numbers.{little_endian-one}
use Rattle.cc_layout.proofs.Codes.{no_whole}
use Rattle.cc_layout.proofs.CompressedForms.{compressed_free}
use Rattle.cc_module.specs.Heaps.{special_mark, text_entry, heap_bytes}
use Rattle.cc_tables.specs.Faults.{end_fault}
use Rattle.cc_tables.specs.Forms.{user_strings_heap, IsHeapText, heap_entry, BeginsNone, BeginsWithZero, Entries, HasForm}
use Rattle.cc_tables.proofs.Entries.{compressed_code}
use Rattle.cc_tables.proofs.Forming.{entries_more, texts_more, form_there}
use Rattle.cc_tables.proofs.Written.{units_long}

abbrev pub units_bytes : List ℕ → List ℕ
units_bytes units = flat_map (little_endian 2) units

-- ---- units

pub units_more : (units : List ℕ) (unit : ℕ) (rest after pairs : List ℕ) → units_bytes units ++ rest ≡ pairs → rest ≡ little_endian 2 unit ++ after → units_bytes (units ++ unit ∷ []) ++ after ≡ pairs
units_more units unit rest after pairs e f =
    let grown : units_bytes (units ++ unit ∷ []) ≡ units_bytes units ++ little_endian 2 unit =
    flat_map-append (little_endian 2) units (unit ∷ []) ∙ ap (λ (x : List ℕ). units_bytes units ++ x) (flat_map-cons (little_endian 2) unit [] ∙ append-nil (little_endian 2 unit)) in
    ap (λ (x : List ℕ). x ++ after) grown ∙ append_assoc (units_bytes units) (little_endian 2 unit) after ∙ ap (λ (x : List ℕ). units_bytes units ++ x) (sym f) ∙ e

nothing_left : (rest : List ℕ) → length rest ≡ 0 → rest ≡ []
nothing_left [] e = refl
nothing_left (x ∷ rest) e = absurd (omega (arith, e))

pub units_done : (units rest pairs : List ℕ) → units_bytes units ++ rest ≡ pairs → length rest < 2 → (count : ℕ) × (length pairs ≡ 2 * count) → units_bytes units ≡ pairs
units_done units rest pairs e short (count, even) =
    let none : rest ≡ [] = nothing_left rest (omega (arith, short, even, ap length e, length-append (units_bytes units) rest, units_long units)) in
    sym (append-nil (units_bytes units)) ∙ ap (λ (x : List ℕ). units_bytes units ++ x) (sym none) ∙ e

pub units_one : (a b x y : List ℕ) → AllByRecursion (λ unit. unit < 2 ^ 16) a → AllByRecursion (λ unit. unit < 2 ^ 16) b → length a ≡ length b → units_bytes a ++ x ≡ units_bytes b ++ y → (a ≡ b) × (x ≡ y)
units_one [] [] x y h k l e = (refl, e)
units_one [] (d ∷ b) x y h k l e = absurd (omega (arith, l))
units_one (c ∷ a) [] x y h k l e = absurd (omega (arith, l))
units_one (c ∷ a) (d ∷ b) x y h k l e =
    let left = ap (λ (t : List ℕ). t ++ x) (flat_map-cons (little_endian 2) c a) ∙ append_assoc (little_endian 2 c) (units_bytes a) x in
    let right = ap (λ (t : List ℕ). t ++ y) (flat_map-cons (little_endian 2) d b) ∙ append_assoc (little_endian 2 d) (units_bytes b) y in
    let first = little_endian-one 2 c d (units_bytes a ++ x) (units_bytes b ++ y) h.0 k.0 (sym left ∙ e ∙ right) in
    let ih = units_one a b x y h.1 k.1 (omega (arith, l)) first.1 in
    (λ i. first.0 i ∷ ih.0 i, ih.1)

pub below_more : (units : List ℕ) (unit : ℕ) → AllByRecursion (λ unit. unit < 2 ^ 16) units → unit < 2 ^ 16 → AllByRecursion (λ unit. unit < 2 ^ 16) (units ++ unit ∷ [])
below_more [] unit h k = (k, tt)
below_more (other ∷ units) unit h k = (h.0, below_more units unit h.1 k)

-- ---- one user string

pub no_user_bad : (bytes : List ℕ) (n : ℕ) → IsBad IsCompressed bytes n → BeginsNone user_strings_heap bytes
no_user_bad bytes n bad units more h e =
    let length_bytes : List ℕ = compressed (2 * length units + 1) in
    let body : List ℕ = units_bytes units ++ special_mark units ∷ [] in
    no_whole IsCompressed compressed_code bytes n bad length_bytes (body ++ more) (2 * length units + 1, h.1, refl) (e ∙ append_assoc length_bytes body more)

module _ (bytes rest : List ℕ) (v : ℕ) (small : v < 2 ^ 29) (is : bytes ≡ compressed v ++ rest) where
  told : (units more : List ℕ) → IsHeapText user_strings_heap units → bytes ≡ text_entry units ++ more → (v ≡ 2 * length units + 1) × (rest ≡ (units_bytes units ++ special_mark units ∷ []) ++ more)
  told units more h e =
      let body : List ℕ = units_bytes units ++ special_mark units ∷ [] in
      compressed_free v (2 * length units + 1) rest (body ++ more) small h.1 (sym is ∙ e ∙ append_assoc (compressed (2 * length units + 1)) body more)

  pub no_user_even : v % 2 ≡ 0 → BeginsNone user_strings_heap bytes
  no_user_even z units more h e = omega (arith, z, (told units more h e).0)

  pub no_user_short : length rest < v → BeginsNone user_strings_heap bytes
  no_user_short short units more h e =
      let t = told units more h e in
      omega (arith, short, t.0, ap length t.1, length-append (units_bytes units ++ special_mark units ∷ []) more, length-append (units_bytes units) (special_mark units ∷ []), units_long units)

  module _ (pairs tail units : List ℕ) (p : pairs ≡ take (v - 1) rest) (t : tail ≡ drop (v - 1) rest) (u : units_bytes units ≡ pairs) (low : AllByRecursion (λ unit. unit < 2 ^ 16) units) (some : 0 < v) (long : v ≤ length rest) where
    count : 2 * length units + 1 ≡ v
    count = omega (arith, units_long units, ap length u, ap length p, length-take (v - 1) rest, long, some)

    whole : units_bytes units ++ tail ≡ rest
    whole = ap (λ (x : List ℕ). x ++ tail) (u ∙ p) ∙ ap (λ (x : List ℕ). take (v - 1) rest ++ x) t ∙ take-append-drop (v - 1) rest

    pub no_user_mark : (get_or tail 0 0 ≡ special_mark units → ⊥) → BeginsNone user_strings_heap bytes
    no_user_mark differs other more h e =
        let f = told other more h e in
        let same = units_one units other tail (special_mark other ∷ more) low h.0 (omega (arith, count, f.0)) (whole ∙ f.1 ∙ append_assoc (units_bytes other) (special_mark other ∷ []) more) in
        differs (ap (λ (x : List ℕ). get_or x 0 0) same.1 ∙ ap special_mark (sym same.0))

    pub user_there : (after : List ℕ) → get_or tail 0 0 ≡ special_mark units → after ≡ drop 1 tail → IsHeapText user_strings_heap units × (bytes ≡ heap_entry user_strings_heap units ++ after)
    user_there after mark a =
        let ends : 0 < length tail = omega (arith, ap length t, length-drop (v - 1) rest, long, some) in
        let parts : tail ≡ special_mark units ∷ after = opened tail ends ∙ ap (λ (x : ℕ). x ∷ drop 1 tail) mark ∙ ap (λ (x : List ℕ). special_mark units ∷ x) (sym a) in
        let body : List ℕ = units_bytes units ++ special_mark units ∷ [] in
        let joined : rest ≡ body ++ after = sym whole ∙ ap (λ (x : List ℕ). units_bytes units ++ x) parts ∙ sym (append_assoc (units_bytes units) (special_mark units ∷ []) after) in (
          (low, omega (arith, count, small)),
          is ∙ ap (λ (x : List ℕ). compressed v ++ x) joined ∙ ap (λ (n : ℕ). compressed n ++ (body ++ after)) (sym count) ∙ sym (append_assoc (compressed (2 * length units + 1)) body after),
        )
      where
        opened : (xs : List ℕ) → 0 < length xs → xs ≡ get_or xs 0 0 ∷ drop 1 xs
        opened [] h = absurd (omega (arith, h))
        opened (x ∷ xs) h = refl

-- ---- one after the other

pub record MetStrings (stream rest : List ℕ) (texts : List (List ℕ)) : Type 0 where
  pub parts : stream ≡ heap_bytes (heap_entry user_strings_heap) texts ++ rest
  pub each : AllByRecursion (IsHeapText user_strings_heap) texts

pub strings_none : (stream rest : List ℕ) (texts : List (List ℕ)) → BeginsWithZero stream → rest ≡ drop 1 stream → texts ≡ [] → MetStrings stream rest texts
strings_none stream rest texts (more, is) e z = subst (λ (x : List (List ℕ)). MetStrings stream rest x) (sym z) (record { parts = is ∙ ap (λ (x : List ℕ). 0 ∷ x) (sym (e ∙ ap (drop 1) is)); each = tt })

pub strings_more : (stream rest after units : List ℕ) (texts new : List (List ℕ)) → MetStrings stream rest texts → IsHeapText user_strings_heap units → rest ≡ heap_entry user_strings_heap units ++ after → new ≡ texts ++ units ∷ [] → MetStrings stream after new
strings_more stream rest after units texts new m h e z =
    subst (λ (x : List (List ℕ)). MetStrings stream after x) (sym z)
    (record { parts = entries_more user_strings_heap stream rest after units texts m.parts e; each = texts_more (IsHeapText user_strings_heap) texts units m.each h })

pub strings_last : (stream rest : List ℕ) (texts : List (List ℕ)) (used : ℕ) → MetStrings stream rest texts → BeginsNone user_strings_heap rest → used ≡ length stream - length rest
    → (rest : List ℕ) × Entries user_strings_heap stream texts rest × (used ≡ length (heap_bytes (heap_entry user_strings_heap) texts))
strings_last stream rest texts used m last e =
    (rest, record { parts = m.parts; each = m.each; last = last }, omega (arith, e, ap length m.parts, length-append (heap_bytes (heap_entry user_strings_heap) texts) rest))

pub strings_there : (stream : List ℕ) (at used : ℕ) (texts : List (List ℕ)) → AreBytes stream → (rest : List ℕ) × Entries user_strings_heap stream texts rest × (used ≡ length (heap_bytes (heap_entry user_strings_heap) texts)) → end_fault at used stream ≡ None
    → HasForm user_strings_heap stream texts
strings_there stream at used texts h (rest, entries, e) none = form_there user_strings_heap stream rest at texts h entries (ap (λ (n : ℕ). end_fault at n stream) (sym e) ∙ none)
