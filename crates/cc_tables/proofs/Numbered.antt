-- Rows met one after the other give the names and blobs of all columns, each once, and the number of each column among them.
use Rattle.std.proofs.Common.{◌≡◌, ℕ, ◌+◌, ◌<◌, Bool, true, false, not, ◌||◌, List, [], ◌∷◌, ◌++◌, length, get_or, take, drop, refl, sym, ap, subst, ◌∙◌, append_assoc, inl, inr, map, filter}
use Rattle.std.specs.List.{flat_map, list_any, AllByRecursion}
use Rattle.std.specs.Str.{bytes_eq}
use Rattle.std.proofs.lemmas.List.{append-nil, take_more, drop_more, take-append-drop}
use Rattle.std.proofs.lemmas.Grind.{flat_map-append}
use Rattle.std.proofs.lemmas.List.Folds.{list_any-append}
use Rattle.std.proofs.lemmas.Cmp.{nat_list_eq_equiv}
use Rattle.std.proofs.lemmas.Slice.Eq.{bytes_eq-Decides}
use Rattle.std.proofs.lemmas.List.Concat.{flat_map-cons}
use Rattle.cc_module.specs.Heaps.{place_from, place_of, distinct, filled, name_entry, blob_entry}
use Rattle.cc_module.specs.Rows.{Cell, u1, u2, u4, name, guid, signature, blob, row, coded}
use Rattle.cc_module.specs.Metadata.{name_of, blob_of, names_of, blobs_of, cell_value, column_of}
use Rattle.cc_module.specs.declared.table.Column.TheVariants as col
use Rattle.cc_tables.specs.declared.heap.HeapKind.{HeapKind}
use Rattle.cc_tables.specs.declared.heap.HeapKind.TheVariants.{Names, Blobs}
use Rattle.cc_tables.specs.declared.heap.Heap.{Heap}
use Rattle.cc_tables.specs.declared.numbering.Slot.{Slot}
use Rattle.cc_tables.specs.declared.numbering.Numbering.{Numbering}
use Rattle.cc_tables.specs.Numbering.{entry_of, heap_texts, IsHeap, with_text, with_texts, Numbered, slot_of, with_cell, with_cells, numbered, IsNumbering, IsShort, Meets}
use Rattle.cc_tables.proofs.Heaps.{which}

-- a column that uses no heap
pub meets_plain : (cell : Cell) (old new : Numbering) → IsNumbering old → new.names ≡ old.names → new.blobs ≡ old.blobs → new.slots.items ≡ old.slots.items ++ slot_of (heap_texts old.names) (heap_texts old.blobs) cell ∷ []
    → name_of cell ≡ [] → blob_of cell ≡ [] → Meets old new (cell ∷ [])
unfolding numbered with_cell
meets_plain cell old new h n b s no_name no_blob = record { whole = record { names = rw n h.names; blobs = rw b h.blobs }; met = rw (n, b, s, no_name, no_blob) refl }

-- ---- one after the other

pub with_cells-append : (s : Numbered) (a b : List Cell) → with_cells s (a ++ b) ≡ with_cells (with_cells s a) b
with_cells-append s [] b = refl
with_cells-append s (cell ∷ a) b = with_cells-append (with_cell s cell) a b

pub meets_none : (n : Numbering) → IsNumbering n → Meets n n []
meets_none n h = record { whole = h; met = refl }

pub meets_both : (old middle new : Numbering) (a b : List Cell) → Meets old middle a → Meets middle new b → Meets old new (a ++ b)
meets_both old middle new a b h k = record { whole = k.whole; met = k.met ∙ ap (λ (s : Numbered). with_cells s b) h.met ∙ sym (with_cells-append (numbered old) a b) }

-- ---- a text keeps its place

module _ (entry : List ℕ → List ℕ) where
  -- where more entries follow
  place_kept : (at : ℕ) (texts more : List (List ℕ)) (text : List ℕ) → list_any (bytes_eq text) texts ≡ true → place_from entry at (texts ++ more) text ≡ place_from entry at texts text
  place_kept at [] more text e = absurd cc
  place_kept at (other ∷ texts) more text e =
      elim (which (bytes_eq text other)) [
        | inl s ↦ rw s refl
        | inr s ↦ rw s (place_kept (at + length (entry other)) texts more text (rw s at e))
      ]

  -- where it is the next entry
  place_new : (at : ℕ) (texts more : List (List ℕ)) (text : List ℕ) → bytes_eq text text ≡ true → place_from entry at (texts ++ text ∷ more) text ≡ place_from entry at texts text
  place_new at [] more text same = rw same refl
  place_new at (other ∷ texts) more text same =
      elim (which (bytes_eq text other)) [
        | inl s ↦ rw s refl
        | inr s ↦ rw s (place_new (at + length (entry other)) texts more text same)
      ]

-- texts are only added behind the others
with_texts-grows : (texts more : List (List ℕ)) → (added : List (List ℕ)) × (with_texts texts more ≡ texts ++ added)
unfolding with_text
with_texts-grows texts [] = ([], sym (append-nil texts))
with_texts-grows texts (text ∷ more) =
    elim (which (list_any (bytes_eq text) texts)) [
      | inl s ↦ rw s (with_texts-grows texts more)
      | inr s ↦ let g = with_texts-grows (texts ++ text ∷ []) more in rw s (text ∷ g.0, g.1 ∙ append_assoc texts (text ∷ []) g.0)
    ]

with_texts-append : (texts a b : List (List ℕ)) → with_texts texts (a ++ b) ≡ with_texts (with_texts texts a) b
with_texts-append texts [] b = refl
with_texts-append texts (text ∷ a) b = with_texts-append (with_text texts text) a b

place_stays_by : (entry : List ℕ → List ℕ) (texts more : List (List ℕ)) (text : List ℕ) → bytes_eq text text ≡ true → place_from entry 1 (with_texts (with_text texts text) more) text ≡ place_from entry 1 texts text
unfolding with_text
place_stays_by entry texts more text same =
    elim (which (list_any (bytes_eq text) texts)) [
      | inl s ↦ rw s (let g = with_texts-grows texts more in rw (g.1) (place_kept entry 1 texts g.0 text s))
      | inr s ↦
          rw s
          (let g = with_texts-grows (texts ++ text ∷ []) more in rw (g.1, append_assoc texts (text ∷ []) g.0) (place_new entry 1 texts g.0 text same))
    ]

bytes_same : (text : List ℕ) → bytes_eq text text ≡ true
bytes_same text = nat_list_eq_equiv.refl text

place_stays : (entry : List ℕ → List ℕ) (texts more : List (List ℕ)) (text : List ℕ) → place_of entry (with_texts (with_texts texts (filled text)) more) text ≡ place_of entry texts text
place_stays entry texts more [] = refl
place_stays entry texts more (byte ∷ text) = place_stays_by entry texts more (byte ∷ text) (bytes_same (byte ∷ text))

-- ---- all columns

pub names_met : (s : Numbered) (cells : List Cell) → (with_cells s cells).names ≡ with_texts s.names (flat_map name_of cells)
unfolding with_cell
names_met s [] = refl
names_met s (cell ∷ cells) = names_met (with_cell s cell) cells ∙ sym (with_texts-append s.names (name_of cell) (flat_map name_of cells)) ∙ ap (with_texts s.names) (sym (flat_map-cons name_of cell cells))

pub blobs_met : (s : Numbered) (cells : List Cell) → (with_cells s cells).blobs ≡ with_texts s.blobs (flat_map blob_of cells)
unfolding with_cell
blobs_met s [] = refl
blobs_met s (cell ∷ cells) = blobs_met (with_cell s cell) cells ∙ sym (with_texts-append s.blobs (blob_of cell) (flat_map blob_of cells)) ∙ ap (with_texts s.blobs) (sym (flat_map-cons blob_of cell cells))

-- the number of a column stays, whatever comes behind it
pub value_stays : (names blobs more_names more_blobs : List (List ℕ)) (cell : Cell)
    → cell_value (with_texts (with_texts names (name_of cell)) more_names) (with_texts (with_texts blobs (blob_of cell)) more_blobs) cell ≡ cell_value names blobs cell
value_stays names blobs more_names more_blobs (u1 value) = refl
value_stays names blobs more_names more_blobs (u2 value) = refl
value_stays names blobs more_names more_blobs (u4 value) = refl
value_stays names blobs more_names more_blobs (name text) = place_stays name_entry names more_names text
value_stays names blobs more_names more_blobs (guid index) = refl
value_stays names blobs more_names more_blobs (signature text) = place_stays blob_entry blobs more_blobs text
value_stays names blobs more_names more_blobs (blob text) = place_stays blob_entry blobs more_blobs text
value_stays names blobs more_names more_blobs (row table index) = refl
value_stays names blobs more_names more_blobs (coded kind index) = refl

pub slots_met : (s : Numbered) (cells : List Cell) → (with_cells s cells).slots ≡ s.slots ++ map (slot_of (with_cells s cells).names (with_cells s cells).blobs) cells
unfolding with_cell
slots_met s [] = sym (append-nil s.slots)
slots_met s (cell ∷ cells) =
    let next = with_cell s cell in
    let last = with_cells next cells in
    let stays : cell_value last.names last.blobs cell ≡ cell_value s.names s.blobs cell =
    rw (names_met next cells, blobs_met next cells) (value_stays s.names s.blobs (flat_map name_of cells) (flat_map blob_of cells) cell) in
    let first : slot_of s.names s.blobs cell ≡ slot_of last.names last.blobs cell = λ i. record { column = column_of cell; value = sym stays i } in
    slots_met next cells ∙ append_assoc s.slots (slot_of s.names s.blobs cell ∷ []) (map (slot_of last.names last.blobs) cells)
    ∙ ap (λ (x : Slot). s.slots ++ x ∷ map (slot_of last.names last.blobs) cells) first

-- ---- each text once

-- those that are not among others
without : List (List ℕ) → List (List ℕ) → List (List ℕ)
without texts more = filter (λ text. not (list_any (bytes_eq text) texts)) more

without_none : (more : List (List ℕ)) → without [] more ≡ more
unfolding without
without_none [] = refl
without_none (text ∷ more) = ap (λ (x : List (List ℕ)). text ∷ x) (without_none more)

or_false : (b : Bool) → (b || false) ≡ b
or_false true = refl
or_false false = refl

or_true : (b : Bool) → (b || true) ≡ true
or_true true = refl
or_true false = refl

same_text : (a b : List ℕ) → bytes_eq a b ≡ true → a ≡ b
same_text a b e = (bytes_eq-Decides a b).0 e

any_same : (texts : List (List ℕ)) (text other : List ℕ) → bytes_eq text other ≡ true → list_any (bytes_eq text) texts ≡ true → list_any (bytes_eq other) texts ≡ true
any_same texts text other e h = let p = same_text text other e in rw p at h

-- leaving out a text that is among the others changes nothing
without-there : (texts more : List (List ℕ)) (text : List ℕ) → list_any (bytes_eq text) texts ≡ true → without texts (filter (λ other. not (bytes_eq text other)) more) ≡ without texts more
unfolding without
without-there texts [] text h = refl
without-there texts (other ∷ more) text h =
    elim (which (bytes_eq text other)) [
      | inl s ↦ let there = any_same texts text other s h in rw s (rw there (without-there texts more text h))
      | inr s ↦
          elim (which (list_any (bytes_eq other) texts)) [
            | inl t ↦ rw (s, t) (without-there texts more text h)
            | inr t ↦ rw (s, t) (ap (λ (x : List (List ℕ)). other ∷ x) (without-there texts more text h))
          ]
    ]

-- leaving out one more
without-more : (texts more : List (List ℕ)) (text : List ℕ) → without (texts ++ text ∷ []) more ≡ without texts (filter (λ other. not (bytes_eq text other)) more)
unfolding without
without-more texts [] text = refl
without-more texts (other ∷ more) text =
    let both : list_any (bytes_eq other) (texts ++ text ∷ []) ≡ (list_any (bytes_eq other) texts || bytes_eq text other) =
    list_any-append (bytes_eq other) texts (text ∷ []) ∙ ap (λ (b : Bool). list_any (bytes_eq other) texts || b) (or_false (bytes_eq other text) ∙ nat_list_eq_equiv.symm other text) in
    elim (which (bytes_eq text other)) [
      | inl s ↦
          let out : list_any (bytes_eq other) (texts ++ text ∷ []) ≡ true = both ∙ ap (λ (b : Bool). list_any (bytes_eq other) texts || b) s ∙ or_true (list_any (bytes_eq other) texts) in
          rw (out, s) (without-more texts more text)
      | inr s ↦
          let same : list_any (bytes_eq other) (texts ++ text ∷ []) ≡ list_any (bytes_eq other) texts = both ∙ ap (λ (b : Bool). list_any (bytes_eq other) texts || b) s ∙ or_false (list_any (bytes_eq other) texts) in
          elim (which (list_any (bytes_eq other) texts)) [
            | inl t ↦ rw (same, s, t) (without-more texts more text)
            | inr t ↦ rw (same, s, t) (ap (λ (x : List (List ℕ)). other ∷ x) (without-more texts more text))
          ]
    ]

with_texts-distinct : (texts more : List (List ℕ)) → with_texts texts more ≡ texts ++ without texts (distinct more)
unfolding with_text without
with_texts-distinct texts [] = sym (append-nil texts)
with_texts-distinct texts (text ∷ more) =
    elim (which (list_any (bytes_eq text) texts)) [
      | inl s ↦ rw s (with_texts-distinct texts more ∙ ap (λ (x : List (List ℕ)). texts ++ x) (sym (without-there texts (distinct more) text s)))
      | inr s ↦
          rw s
          (with_texts-distinct (texts ++ text ∷ []) more ∙ append_assoc texts (text ∷ []) (without (texts ++ text ∷ []) (distinct more))
          ∙ ap (λ (x : List (List ℕ)). texts ++ text ∷ x) (without-more texts (distinct more) text))
    ]

pub once : (more : List (List ℕ)) → with_texts [] more ≡ distinct more
once more = with_texts-distinct [] more ∙ without_none (distinct more)

-- ---- what is known after all columns

abbrev pub nothing : Numbered
nothing = record { names = []; blobs = []; slots = [] }

pub all_names : (cells : List Cell) → (with_cells nothing cells).names ≡ names_of cells
all_names cells = names_met nothing cells ∙ once (flat_map name_of cells)

pub all_blobs : (cells : List Cell) → (with_cells nothing cells).blobs ≡ blobs_of cells
all_blobs cells = blobs_met nothing cells ∙ once (flat_map blob_of cells)

pub all_slots : (cells : List Cell) → (with_cells nothing cells).slots ≡ map (slot_of (names_of cells) (blobs_of cells)) cells
all_slots cells = slots_met nothing cells ∙ (λ i. map (slot_of (all_names cells i) (all_blobs cells i)) cells)

-- ---- the rows of a table

parts_before : {A : Type 0} (P : A → Type 0) (a b : List A) → AllByRecursion P (a ++ b) → AllByRecursion P a
parts_before P [] b h = tt
parts_before P (x ∷ a) b h = (h.0, parts_before P a b h.1)

parts_after : {A : Type 0} (P : A → Type 0) (a b : List A) → AllByRecursion P (a ++ b) → AllByRecursion P b
parts_after P [] b h = h
parts_after P (x ∷ a) b h = parts_after P a b h.1

module _ {R : Type 0} (cells : R → List Cell) (rows : List R) (i : ℕ) (one : R) (lt : i < length rows) (is : one ≡ get_or rows i one) where
  -- all, as those before, this one and those after
  parted : flat_map cells rows ≡ flat_map cells (take i rows) ++ (cells one ++ flat_map cells (drop (i + 1) rows))
  parted =
      ap (flat_map cells) (sym (take-append-drop i rows)) ∙ flat_map-append cells (take i rows) (drop i rows)
      ∙ ap (λ (x : List Cell). flat_map cells (take i rows) ++ x)
      (ap (flat_map cells) (drop_more rows i one lt) ∙ flat_map-cons cells (get_or rows i one) (drop (i + 1) rows) ∙ ap (λ (x : R). cells x ++ flat_map cells (drop (i + 1) rows)) (sym is))

  pub row_short : AllByRecursion IsShort (flat_map cells rows) → AllByRecursion IsShort (cells one)
  row_short h =
      let parts : AllByRecursion IsShort (flat_map cells (take i rows) ++ (cells one ++ flat_map cells (drop (i + 1) rows))) = rw parted at h in
      parts_before IsShort (cells one) (flat_map cells (drop (i + 1) rows)) (parts_after IsShort (flat_map cells (take i rows)) (cells one ++ flat_map cells (drop (i + 1) rows)) parts)

  pub row_met : (old middle new : Numbering) → Meets old middle (flat_map cells (take i rows)) → Meets middle new (cells one) → Meets old new (flat_map cells (take (i + 1) rows))
  row_met old middle new h k =
      let next : flat_map cells (take (i + 1) rows) ≡ flat_map cells (take i rows) ++ cells one =
      ap (flat_map cells) (take_more rows i one lt) ∙ flat_map-append cells (take i rows) (get_or rows i one ∷ [])
      ∙ ap (λ (x : List Cell). flat_map cells (take i rows) ++ x) (flat_map-cons cells (get_or rows i one) [] ∙ append-nil (cells (get_or rows i one)) ∙ ap cells (sym is)) in
      rw next (meets_both old middle new (flat_map cells (take i rows)) (cells one) h k)

-- ---- columns that use a heap

pub own_heap : (kind : HeapKind) (h : Heap) → IsHeap kind h → IsHeap h.kind h
own_heap kind h p = subst (λ (k : HeapKind). IsHeap k h) (sym p.is) p

pub names_short : (h : Heap) (P : Type 0) → IsHeap Names h → h.kind ≡ Blobs → P
names_short h P p e = let no : Names ≡ Blobs = sym p.is ∙ e in absurd cc

pub meets_name : (text : List ℕ) (old new : Numbering) (names : Heap) (place : ℕ) → IsNumbering old → IsHeap old.names.kind names → heap_texts names ≡ with_texts (heap_texts old.names) (filled text)
    → place ≡ place_of (entry_of old.names.kind) (heap_texts old.names) text → new.names ≡ names → new.blobs ≡ old.blobs
    → new.slots.items ≡ old.slots.items ++ record { column = col.Name; value = place } ∷ [] → Meets old new (name text ∷ [])
unfolding numbered with_cell
meets_name text old new names place h heap texts at n b s =
    let own : IsHeap Names names = subst (λ (k : HeapKind). IsHeap k names) h.names.is heap in
    let there : place ≡ place_of name_entry (heap_texts old.names) text = rw h.names.is at at in
    record { whole = record { names = rw n own; blobs = rw b h.blobs }; met = rw (n, b, s, texts, there) refl }

pub meets_signature : (text : List ℕ) (old new : Numbering) (blobs : Heap) (place : ℕ) → IsNumbering old → IsHeap old.blobs.kind blobs → heap_texts blobs ≡ with_texts (heap_texts old.blobs) (filled text)
    → place ≡ place_of (entry_of old.blobs.kind) (heap_texts old.blobs) text → new.names ≡ old.names → new.blobs ≡ blobs
    → new.slots.items ≡ old.slots.items ++ record { column = col.Blob; value = place } ∷ [] → Meets old new (signature text ∷ [])
unfolding numbered with_cell
meets_signature text old new blobs place h heap texts at n b s =
    let own : IsHeap Blobs blobs = subst (λ (k : HeapKind). IsHeap k blobs) h.blobs.is heap in
    let there : place ≡ place_of blob_entry (heap_texts old.blobs) text = rw h.blobs.is at at in
    record { whole = record { names = rw n h.names; blobs = rw b own }; met = rw (n, b, s, texts, there) refl }

-- another blob is met as a signature is
pub meets_blob : (text : List ℕ) (old new : Numbering) → Meets old new (signature text ∷ []) → Meets old new (blob text ∷ [])
unfolding with_cell
meets_blob text old new h = record { whole = h.whole; met = h.met }

pub numbered_none : (n : Numbering) → heap_texts n.names ≡ [] → heap_texts n.blobs ≡ [] → n.slots.items ≡ [] → numbered n ≡ nothing
unfolding numbered
numbered_none n a b s = rw (a, b, s) refl
