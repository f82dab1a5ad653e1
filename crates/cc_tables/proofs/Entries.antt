-- Entries at the front of bytes of a heap: where a name ends, and which bytes begin with no entry.
use Rattle.std.proofs.Common.{◌≡◌, ℕ, zero, suc, ◌+◌, ◌^◌, ◌<◌, ◌≤◌, List, [], ◌∷◌, ◌++◌, length, get_or, take, drop, refl, sym, ap, subst, ◌∙◌, ◌⊎◌, inl, inr, append_assoc, arith}
use Rattle.std.specs.Prelude.{IsUtf8}
use Rattle.std.specs.List.{AllByRecursion}
use Rattle.std.proofs.lemmas.List.{length-append, length-take, length-drop, take_at, take-append-drop}
use Rattle.std.proofs.Math.ListN.{drop_of_length-le}
use Rattle.cc_layout.specs.Codes.{IsBad, IsCode}
use Rattle.cc_layout.specs.Compressed.{compressed, IsCompressed}
use Rattle.cc_layout.proofs.Codes.{no_whole}
use Rattle.cc_layout.proofs.CompressedForms.{compressed_free}
use Rattle.cc_tables.specs.declared.heap.HeapKind.{HeapKind}
use Rattle.cc_tables.specs.declared.heap.HeapKind.TheVariants.{Names, Blobs}
use Rattle.cc_tables.specs.Forms.{IsHeapText, heap_entry, strings_heap, blob_heap, form_of, BeginsNone, StandsAt}

abbrev IsFilled : List ℕ → Type 0
IsFilled bytes = AllByRecursion (λ byte. 0 < byte) bytes

-- ---- names

pub filled_more : (bytes : List ℕ) (i : ℕ) → i < length bytes → 0 < get_or bytes i 0 → AllByRecursion (λ byte. 0 < byte) (take i bytes) → AllByRecursion (λ byte. 0 < byte) (take (i + 1) bytes)
filled_more [] i lt h k = absurd (omega (arith, lt))
filled_more (b ∷ bytes) zero lt h k = (h, tt)
filled_more (b ∷ bytes) (suc i) lt h k = let s : suc i + 1 ≡ suc (i + 1) = omega arith in rw s (k.0, filled_more bytes i (omega (arith, lt)) h k.1)

-- a name ends at the first zero
zero_at : (text more : List ℕ) (n : ℕ) → IsFilled text → n ≤ length ((text ++ 0 ∷ []) ++ more) → IsFilled (take n ((text ++ 0 ∷ []) ++ more)) → (n < length ((text ++ 0 ∷ []) ++ more) → get_or ((text ++ 0 ∷ []) ++ more) n 0 ≡ 0)
    → (n < length ((text ++ 0 ∷ []) ++ more)) × (take n ((text ++ 0 ∷ []) ++ more) ≡ text)
zero_at [] more zero all within filled end = (omega arith, refl)
zero_at [] more (suc n) all within filled end = absurd (omega (arith, filled.0))
zero_at (b ∷ text) more zero all within filled end = let e = end (omega arith) in absurd (omega (arith, all.0, e))
zero_at (b ∷ text) more (suc n) all within filled end =
    let ih = zero_at text more n all.1 (omega (arith, within)) filled.1 (λ lt. end (omega (arith, lt))) in
    (omega (arith, ih.0), ap (λ (x : List ℕ). b ∷ x) ih.1)

zero_parts : (bytes : List ℕ) (n : ℕ) → n < length bytes → get_or bytes n 0 ≡ 0 → bytes ≡ (take n bytes ++ 0 ∷ []) ++ drop 1 (drop n bytes)
zero_parts [] n lt z = absurd (omega (arith, lt))
zero_parts (b ∷ bytes) zero lt z = ap (λ (x : ℕ). x ∷ bytes) z
zero_parts (b ∷ bytes) (suc n) lt z = ap (λ (x : List ℕ). b ∷ x) (zero_parts bytes n (omega (arith, lt)) z)

module _ (bytes : List ℕ) (n : ℕ) (within : n ≤ length bytes) (filled : AllByRecursion (λ byte. 0 < byte) (take n bytes)) (end : n < length bytes → get_or bytes n 0 ≡ 0) where
  found : (text more : List ℕ) → IsFilled text → bytes ≡ (text ++ 0 ∷ []) ++ more → (n < length bytes) × (take n bytes ≡ text)
  found text more h e =
      let moved = zero_at text more n h (subst (λ (x : List ℕ). n ≤ length x) e within) (subst (λ (x : List ℕ). IsFilled (take n x)) e filled) (subst (λ (x : List ℕ). n < length x → get_or x n 0 ≡ 0) e end) in
      (subst (λ (x : List ℕ). n < length x) (sym e) moved.0, ap (take n) e ∙ moved.1)

  pub no_name_empty : n ≡ 0 → BeginsNone strings_heap bytes
  no_name_empty z text more h e =
      let is = (found text more h.2 e).1 in
      let none : [] ≡ text = ap (λ (k : ℕ). take k bytes) (sym z) ∙ is in
      omega (arith, h.0, ap length none)

  pub no_name_open : n ≡ length bytes → BeginsNone strings_heap bytes
  no_name_open z text more h e = omega (arith, (found text more h.2 e).0, z)

  pub no_name_bad : (front : List ℕ) → front ≡ take n bytes → (IsUtf8 front → ⊥) → BeginsNone strings_heap bytes
  no_name_bad front is bad text more h e = bad (subst IsUtf8 (sym (is ∙ (found text more h.2 e).1)) h.1)

  pub name_there : (front rest after : List ℕ) → front ≡ take n bytes → rest ≡ drop n bytes → after ≡ drop 1 rest → 0 < n → n < length bytes → IsUtf8 front → IsHeapText strings_heap front × (bytes ≡ heap_entry strings_heap front ++ after)
  name_there front rest after f r a some lt text =
      let long : length front ≡ length (take n bytes) = ap length f in
      let parts = zero_parts bytes n lt (end lt) in (
        (omega (arith, long, length-take n bytes, some, lt), text, subst (λ (x : List ℕ). IsFilled x) (sym f) filled),
        parts ∙ ap (λ (x : List ℕ). (x ++ 0 ∷ []) ++ drop 1 (drop n bytes)) (sym f) ∙ ap (λ (x : List ℕ). (front ++ 0 ∷ []) ++ x) (ap (drop 1) (sym r) ∙ sym a),
      )

-- ---- blobs

pub compressed_code : IsCode IsCompressed
compressed_code a b x y (v, small, is) (w, low, same) e =
    let f = compressed_free v w x y small low (ap (λ (t : List ℕ). t ++ x) (sym is) ∙ e ∙ ap (λ (t : List ℕ). t ++ y) same) in
    (is ∙ ap compressed f.0 ∙ sym same, f.1)

pub no_blob_bad : (bytes : List ℕ) (n : ℕ) → IsBad IsCompressed bytes n → BeginsNone blob_heap bytes
no_blob_bad bytes n bad text more h e = no_whole IsCompressed compressed_code bytes n bad (compressed (length text)) (text ++ more) (length text, h.1, refl) (e ∙ append_assoc (compressed (length text)) text more)

module _ (bytes rest : List ℕ) (v : ℕ) (small : v < 2 ^ 29) (is : bytes ≡ compressed v ++ rest) where
  same : (text more : List ℕ) → length text < 2 ^ 29 → bytes ≡ (compressed (length text) ++ text) ++ more → (v ≡ length text) × (rest ≡ text ++ more)
  same text more h e = compressed_free v (length text) rest (text ++ more) small h (sym is ∙ e ∙ append_assoc (compressed (length text)) text more)

  pub no_blob_empty : v ≡ 0 → BeginsNone blob_heap bytes
  no_blob_empty z text more h e = omega (arith, h.0, z, (same text more h.1 e).0)

  pub no_blob_short : length rest < v → BeginsNone blob_heap bytes
  no_blob_short short text more h e = let f = same text more h.1 e in omega (arith, short, f.0, ap length f.1, length-append text more)

  pub blob_there : (text after : List ℕ) → text ≡ take v rest → after ≡ drop v rest → 0 < v → v ≤ length rest → IsHeapText blob_heap text × (bytes ≡ heap_entry blob_heap text ++ after)
  blob_there text after t a some le =
      let long : length text ≡ v = omega (arith, ap length t, length-take v rest, le) in
      let whole : rest ≡ text ++ after = sym (take-append-drop v rest) ∙ ap (λ (x : List ℕ). x ++ drop v rest) (sym t) ∙ ap (λ (x : List ℕ). text ++ x) (sym a) in (
        (omega (arith, long, some), omega (arith, long, small)),
        is ∙ ap (λ (x : List ℕ). compressed v ++ x) whole ∙ ap (λ (k : ℕ). compressed k ++ (text ++ after)) (sym long) ∙ sym (append_assoc (compressed (length text)) text after),
      )

-- ---- what an index tells

-- no entry begins another
name_one : (a b x y : List ℕ) → IsFilled a → IsFilled b → (a ++ 0 ∷ []) ++ x ≡ (b ++ 0 ∷ []) ++ y → a ≡ b
name_one [] [] x y h k e = refl
name_one [] (c ∷ b) x y h k e = let z : 0 ≡ c = cc in absurd (omega (arith, k.0, z))
name_one (c ∷ a) [] x y h k e = let z : c ≡ 0 = cc in absurd (omega (arith, h.0, z))
name_one (c ∷ a) (d ∷ b) x y h k e =
    let first : c ≡ d = cc in
    let others : (a ++ 0 ∷ []) ++ x ≡ (b ++ 0 ∷ []) ++ y = cc in
    let ih = name_one a b x y h.1 k.1 others in
    λ i. first i ∷ ih i

blob_one : (a b x y : List ℕ) → length a < 2 ^ 29 → length b < 2 ^ 29 → (compressed (length a) ++ a) ++ x ≡ (compressed (length b) ++ b) ++ y → a ≡ b
blob_one a b x y h k e =
    let f = compressed_free (length a) (length b) (a ++ x) (b ++ y) h k (sym (append_assoc (compressed (length a)) a x) ∙ e ∙ append_assoc (compressed (length b)) b y) in
    sym (take_at a x (length a) refl) ∙ ap (take (length a)) f.1 ∙ take_at b y (length a) (sym f.0)

pub entry_one : (kind : HeapKind) (a b x y : List ℕ) → IsHeapText (form_of kind) a → IsHeapText (form_of kind) b → heap_entry (form_of kind) a ++ x ≡ heap_entry (form_of kind) b ++ y → a ≡ b
entry_one Names a b x y h k e = name_one a b x y h.2 k.2 e
entry_one Blobs a b x y h k e = blob_one a b x y h.1 k.1 e

entry_some : (kind : HeapKind) (text : List ℕ) → IsHeapText (form_of kind) text → 0 < length (heap_entry (form_of kind) text)
entry_some Names text h = omega (arith, length-append text (0 ∷ []))
entry_some Blobs text h = omega (arith, h.0, length-append (compressed (length text)) text)

module _ (kind : HeapKind) (stream : List ℕ) (place : ℕ) where
  pub stands_zero : place ≡ 0 → (other : List ℕ) → StandsAt (form_of kind) stream place other → [] ≡ other
  stands_zero z other (inl h) = sym h.1
  stands_zero z other (inr h) = absurd (omega (arith, z, h.0))

  pub stands_past : length stream < place → (other : List ℕ) → StandsAt (form_of kind) stream place other → [] ≡ other
  stands_past past other (inl h) = sym h.1
  stands_past past other (inr h) =
      let long = ap length h.2.1 in
      absurd (omega (arith, long, length-drop place stream, past, length-append (heap_entry (form_of kind) other) h.2.0, entry_some kind other h.1))

  pub stands_none : (rest : List ℕ) → rest ≡ drop place stream → BeginsNone (form_of kind) rest → (other : List ℕ) → StandsAt (form_of kind) stream place other → [] ≡ other
  stands_none rest is none other (inl h) = sym h.1
  stands_none rest is none other (inr h) = absurd (none other h.2.0 h.1 (is ∙ h.2.1))

  pub stands_one : (rest text after : List ℕ) → rest ≡ drop place stream → 0 < place → IsHeapText (form_of kind) text → rest ≡ heap_entry (form_of kind) text ++ after → (other : List ℕ) → StandsAt (form_of kind) stream place other → text ≡ other
  stands_one rest text after is some t e other (inl h) = absurd (omega (arith, some, h.0))
  stands_one rest text after is some t e other (inr h) = entry_one kind text other after h.2.0 t h.1 (sym e ∙ is ∙ h.2.1)

  pub stands_there : (rest text after : List ℕ) → rest ≡ drop place stream → 0 < place → IsHeapText (form_of kind) text → rest ≡ heap_entry (form_of kind) text ++ after → StandsAt (form_of kind) stream place text
  stands_there rest text after is some t e = inr (some, t, (after, sym is ∙ e))
