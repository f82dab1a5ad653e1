-- The forms of the heaps #Strings, #US and #Blob (ECMA-335, II.24.2.3 and II.24.2.4): a zero, entries one after the other,
-- and zeros to a multiple of four.
--   HasForm form stream texts          the stream has these entries and nothing else
--   FormFault form at stream fault     the first fault of its form, where the stream stands from `at` on
--   StandsAt form stream place text    an index tells this text: the entry at the place, or the empty text at 0
use Rattle.std.specs.Prelude.{◌≡◌, ◌⊎◌, ℕ, ◌+◌, ◌*◌, ◌<◌, ◌^◌, List, [], ◌∷◌, ◌++◌, length, drop, Some, IsUtf8}
use Rattle.std.specs.List.{AllByRecursion}
use Rattle.cc_module.specs.Heaps.{padded, name_entry, blob_entry, text_entry, heap_bytes}
use Rattle.cc_tables.specs.declared.fault.TableFault.{TableFault}
use Rattle.cc_tables.specs.declared.fault.TableFault.TheVariants.{BadStream}
use Rattle.cc_tables.specs.declared.heap.HeapKind.{HeapKind}
use Rattle.cc_tables.specs.declared.heap.HeapKind.TheVariants.{Names, Blobs}
use Rattle.cc_tables.specs.Faults.{end_fault}

-- the heaps by what they hold
pub data Form : Type 0 where
  strings_heap : Form
  blob_heap : Form
  user_strings_heap : Form

-- well-formed text without a zero; bytes whose length has a compressed form; units of UTF-16
abbrev pub IsHeapText : Form → List ℕ → Type 0
IsHeapText strings_heap text = (0 < length text) × IsUtf8 text × AllByRecursion (λ byte. 0 < byte) text
IsHeapText blob_heap text = (0 < length text) × (length text < 2 ^ 29)
IsHeapText user_strings_heap units = AllByRecursion (λ unit. unit < 2 ^ 16) units × (2 * length units + 1 < 2 ^ 29)

abbrev pub heap_entry : Form → List ℕ → List ℕ
heap_entry strings_heap = name_entry
heap_entry blob_heap = blob_entry
heap_entry user_strings_heap = text_entry

abbrev pub form_of : HeapKind → Form
form_of Names = strings_heap
form_of Blobs = blob_heap

-- no entry stands at the front
abbrev pub BeginsNone : Form → List ℕ → Type 0
BeginsNone form rest = (text more : List ℕ) → IsHeapText form text → rest ≡ heap_entry form text ++ more → ⊥

-- the entries as far as they go, and what stands behind them
pub record Entries (form : Form) (stream : List ℕ) (texts : List (List ℕ)) (rest : List ℕ) : Type 0 where
  pub parts : stream ≡ heap_bytes (heap_entry form) texts ++ rest
  pub each : AllByRecursion (IsHeapText form) texts
  pub last : BeginsNone form rest

pub record HasForm (form : Form) (stream : List ℕ) (texts : List (List ℕ)) : Type 0 where
  pub bytes : stream ≡ padded (heap_bytes (heap_entry form) texts)
  pub each : AllByRecursion (IsHeapText form) texts

abbrev pub HasSomeForm : Form → List ℕ → Type 0
HasSomeForm form stream = (texts : List (List ℕ)) × HasForm form stream texts

abbrev pub BeginsWithZero : List ℕ → Type 0
BeginsWithZero stream = (more : List ℕ) × (stream ≡ 0 ∷ more)

-- the first byte is no zero, or the first byte behind the entries is none of the zeros that end the stream
abbrev pub FormFault : Form → ℕ → List ℕ → TableFault → Type 0
FormFault form at stream fault =
    ((BeginsWithZero stream → ⊥) × (fault ≡ BadStream at))
    ⊎ ((texts : List (List ℕ)) × (rest : List ℕ) × Entries form stream texts rest × (end_fault at (length (heap_bytes (heap_entry form) texts)) stream ≡ Some fault))

-- by the forms of the streams one text at most
abbrev pub StandsAt : Form → List ℕ → ℕ → List ℕ → Type 0
StandsAt form stream place text = ((place ≡ 0) × (text ≡ [])) ⊎ ((0 < place) × IsHeapText form text × ((more : List ℕ) × (drop place stream ≡ heap_entry form text ++ more)))

-- what a reader takes for the text of an index: the empty text where none stands
abbrev pub FoundAt : Form → List ℕ → ℕ → List ℕ → Type 0
FoundAt form stream place text = (text ≡ []) ⊎ StandsAt form stream place text
