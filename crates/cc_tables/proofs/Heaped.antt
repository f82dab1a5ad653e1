-- The heaps of columns as streams: their forms, and where a text stands in them.
use Rattle.std.proofs.Common.{◌≡◌, ℕ, zero, suc, ◌+◌, ◌*◌, ◌^◌, ◌≤◌, ◌<◌, Bool, true, false, not, List, [], ◌∷◌, ◌++◌, length, drop, map, filter, replicate, refl, sym, ap, subst, ◌∙◌, ◌⊎◌, inl, inr, append_assoc, arith}
use Rattle.std.specs.List.{flat_map, list_any, AllByRecursion}
use Rattle.std.specs.Str.{bytes_eq}
use Rattle.std.proofs.lemmas.List.{append-nil, length-append, drop_at}
use Rattle.std.proofs.lemmas.List.Folds.{list_any-append}
use Rattle.std.proofs.lemmas.Cmp.{nat_list_eq_equiv}
use Rattle.std.proofs.lemmas.Slice.Eq.{bytes_eq-Decides}
use Rattle.cc_cil.specs.Bodies.{padding}
use Rattle.cc_module.specs.declared.table.Table.{Table}
use Rattle.cc_module.specs.Heaps.{padded, filled, distinct, name_entry, blob_entry, heap_bytes, place_from, place_of}
use Rattle.cc_module.specs.Rows.{Cell, u1, u2, u4, name, guid, signature, blob, row, coded}
use Rattle.cc_module.specs.Metadata.{name_of, blob_of, names_of, blobs_of, strings_stream, blob_stream}
use Rattle.cc_module.specs.Storable.{FitsCell}
use Rattle.cc_tables.specs.Forms.{Form, strings_heap, blob_heap, IsHeapText, heap_entry, HasForm, StandsAt}
use Rattle.cc_tables.proofs.Heaps.{which}

-- ---- each text once

all_filter : {A : Type 0} (P : A → Type 0) (keep : A → Bool) (xs : List A) → AllByRecursion P xs → AllByRecursion P (filter keep xs)
all_filter P keep [] h = tt
all_filter P keep (x ∷ xs) h =
    elim (which (keep x)) [
      | inl s ↦ rw s (h.0, all_filter P keep xs h.1)
      | inr s ↦ rw s (all_filter P keep xs h.1)
    ]

all_distinct : (P : List ℕ → Type 0) (texts : List (List ℕ)) → AllByRecursion P texts → AllByRecursion P (distinct texts)
all_distinct P [] h = tt
all_distinct P (text ∷ texts) h = (h.0, all_filter P (λ other. not (bytes_eq text other)) (distinct texts) (all_distinct P texts h.1))

all_join : {A : Type 0} (P : A → Type 0) (a b : List A) → AllByRecursion P a → AllByRecursion P b → AllByRecursion P (a ++ b)
all_join P [] b h k = k
all_join P (x ∷ a) b h k = (h.0, all_join P a b h.1 k)

-- a text that is among some is among them once each
any_filter : (text other : List ℕ) (texts : List (List ℕ)) → bytes_eq text other ≡ false → list_any (bytes_eq text) texts ≡ true → list_any (bytes_eq text) (filter (λ x. not (bytes_eq other x)) texts) ≡ true
any_filter text other [] n h = h
any_filter text other (x ∷ texts) n h =
    elim (which (bytes_eq text x)) [
      | inl s ↦
          let same : text ≡ x = (bytes_eq-Decides text x).0 s in
          let differs : bytes_eq other x ≡ false = ap (bytes_eq other) (sym same) ∙ nat_list_eq_equiv.symm other text ∙ n in
          rw differs (rw s refl)
      | inr s ↦
          let further : list_any (bytes_eq text) texts ≡ true = rw s at h in
          elim (which (bytes_eq other x)) [
            | inl t ↦ rw t (any_filter text other texts n further)
            | inr t ↦ rw t (rw s (any_filter text other texts n further))
          ]
    ]

pub any_distinct : (text : List ℕ) (texts : List (List ℕ)) → list_any (bytes_eq text) texts ≡ true → list_any (bytes_eq text) (distinct texts) ≡ true
any_distinct text [] h = h
any_distinct text (x ∷ texts) h =
    elim (which (bytes_eq text x)) [
      | inl s ↦ rw s refl
      | inr s ↦ let further : list_any (bytes_eq text) texts ≡ true = rw s at h in rw s (any_filter text x (distinct texts) s (any_distinct text texts further))
    ]

-- ---- the texts of columns

name_texts : (rows : Table → ℕ) (cell : Cell) → FitsCell rows cell → AllByRecursion (IsHeapText strings_heap) (name_of cell)
name_texts rows (u1 value) h = tt
name_texts rows (u2 value) h = tt
name_texts rows (u4 value) h = tt
name_texts rows (name []) h = tt
name_texts rows (name (byte ∷ text)) h = ((omega arith, h.0, h.1), tt)
name_texts rows (guid index) h = tt
name_texts rows (signature text) h = tt
name_texts rows (blob text) h = tt
name_texts rows (row table index) h = tt
name_texts rows (coded kind code) h = tt

blob_texts : (rows : Table → ℕ) (cell : Cell) → FitsCell rows cell → AllByRecursion (IsHeapText blob_heap) (blob_of cell)
blob_texts rows (u1 value) h = tt
blob_texts rows (u2 value) h = tt
blob_texts rows (u4 value) h = tt
blob_texts rows (name text) h = tt
blob_texts rows (guid index) h = tt
blob_texts rows (signature []) h = tt
blob_texts rows (signature (byte ∷ text)) h = ((omega arith, h.1), tt)
blob_texts rows (blob []) h = tt
blob_texts rows (blob (byte ∷ text)) h = ((omega arith, h), tt)
blob_texts rows (row table index) h = tt
blob_texts rows (coded kind code) h = tt

all_name_texts : (rows : Table → ℕ) (cells : List Cell) → AllByRecursion (FitsCell rows) cells → AllByRecursion (IsHeapText strings_heap) (flat_map name_of cells)
all_name_texts rows [] h = tt
all_name_texts rows (cell ∷ cells) h = all_join (IsHeapText strings_heap) (name_of cell) (flat_map name_of cells) (name_texts rows cell h.0) (all_name_texts rows cells h.1)

all_blob_texts : (rows : Table → ℕ) (cells : List Cell) → AllByRecursion (FitsCell rows) cells → AllByRecursion (IsHeapText blob_heap) (flat_map blob_of cells)
all_blob_texts rows [] h = tt
all_blob_texts rows (cell ∷ cells) h = all_join (IsHeapText blob_heap) (blob_of cell) (flat_map blob_of cells) (blob_texts rows cell h.0) (all_blob_texts rows cells h.1)

pub strings_formed : (rows : Table → ℕ) (cells : List Cell) → AllByRecursion (FitsCell rows) cells → HasForm strings_heap (strings_stream (names_of cells)) (names_of cells)
strings_formed rows cells h = record { bytes = refl; each = all_distinct (IsHeapText strings_heap) (flat_map name_of cells) (all_name_texts rows cells h) }

pub blobs_formed : (rows : Table → ℕ) (cells : List Cell) → AllByRecursion (FitsCell rows) cells → HasForm blob_heap (blob_stream (blobs_of cells)) (blobs_of cells)
blobs_formed rows cells h = record { bytes = refl; each = all_distinct (IsHeapText blob_heap) (flat_map blob_of cells) (all_blob_texts rows cells h) }

-- ---- where a text stands

-- the text is empty or among the texts
abbrev pub IsAmong : List (List ℕ) → List ℕ → Type 0
IsAmong texts text = (text ≡ []) ⊎ (list_any (bytes_eq text) texts ≡ true)

among_front : (text : List ℕ) (a b : List (List ℕ)) → list_any (bytes_eq text) a ≡ true → list_any (bytes_eq text) (a ++ b) ≡ true
among_front text a b h = list_any-append (bytes_eq text) a b ∙ (rw h refl)

among_own : (text : List ℕ) (others : List (List ℕ)) → IsAmong (distinct (filled text ++ others)) text
among_own [] others = inl refl
among_own (byte ∷ text) others = inr (any_distinct (byte ∷ text) ((byte ∷ text) ∷ others) (rw (nat_list_eq_equiv.refl (byte ∷ text)) refl))

record Stands (entry : List ℕ → List ℕ) (at : ℕ) (texts : List (List ℕ)) (text : List ℕ) : Type 0 where
  front : List ℕ
  more : List ℕ
  parts : flat_map entry texts ≡ front ++ (entry text ++ more)
  place : place_from entry at texts text ≡ at + length front

stands : (entry : List ℕ → List ℕ) (at : ℕ) (texts : List (List ℕ)) (text : List ℕ) → list_any (bytes_eq text) texts ≡ true → Stands entry at texts text
stands entry at [] text h = absurd cc
stands entry at (other ∷ texts) text h =
    elim (which (bytes_eq text other)) [
      | inl s ↦
          let same : other ≡ text = sym ((bytes_eq-Decides text other).0 s) in
          record { front = []; more = flat_map entry texts; parts = ap (λ (x : List ℕ). entry x ++ flat_map entry texts) same; place = rw s (omega arith) }
      | inr s ↦
          let further : list_any (bytes_eq text) texts ≡ true = rw s at h in
          let ih = stands entry (at + length (entry other)) texts text further in
          record {
            front = entry other ++ ih.front;
            more = ih.more;
            parts = ap (λ (x : List ℕ). entry other ++ x) ih.parts ∙ sym (append_assoc (entry other) ih.front (entry text ++ ih.more));
            place = rw s (omega (arith, ih.place, length-append (entry other) ih.front));
          }
    ]

all_any : (P : List ℕ → Type 0) (texts : List (List ℕ)) (text : List ℕ) → AllByRecursion P texts → list_any (bytes_eq text) texts ≡ true → P text
all_any P [] text h k = absurd cc
all_any P (other ∷ texts) text h k =
    elim (which (bytes_eq text other)) [
      | inl s ↦ subst P (sym ((bytes_eq-Decides text other).0 s)) h.0
      | inr s ↦ let further : list_any (bytes_eq text) texts ≡ true = rw s at k in all_any P texts text h.1 further
    ]

pub stands_in : (form : Form) (texts : List (List ℕ)) (text : List ℕ) → AllByRecursion (IsHeapText form) texts → IsAmong texts text → StandsAt form (padded (heap_bytes (heap_entry form) texts)) (place_of (heap_entry form) texts text) text
stands_in form texts [] h k = inl (refl, refl)
stands_in form texts (byte ∷ text) h (inl e) = absurd cc
stands_in form texts (byte ∷ text) h (inr k) =
    let entry : List ℕ → List ℕ = heap_entry form in
    let whole : List ℕ = byte ∷ text in
    let s = stands entry 1 texts whole k in
    let zeros : List ℕ = replicate (padding (length (heap_bytes entry texts))) 0 in
    let place : place_of entry texts whole ≡ 1 + length s.front = s.place in
    let stream : padded (heap_bytes entry texts) ≡ (0 ∷ s.front) ++ (entry whole ++ (s.more ++ zeros)) =
    ap (λ (x : List ℕ). (0 ∷ x) ++ zeros) s.parts ∙ append_assoc (0 ∷ s.front) (entry whole ++ s.more) zeros ∙ ap (λ (x : List ℕ). (0 ∷ s.front) ++ x) (append_assoc (entry whole) s.more zeros) in
    let there : drop (place_of entry texts whole) (padded (heap_bytes entry texts)) ≡ entry whole ++ (s.more ++ zeros) =
    (λ i. drop (place i) (stream i)) ∙ drop_at (0 ∷ s.front) (entry whole ++ (s.more ++ zeros)) (1 + length s.front) (omega arith) in
    inr (omega (arith, place), all_any (IsHeapText form) texts whole h k, (s.more ++ zeros, there))
