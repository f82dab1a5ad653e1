-- The checks behind the rows: the entries that no row uses, the order of rows and the signatures.
use Rattle.std.proofs.Common.{◌≡◌, ℕ, ◌+◌, ◌^◌, ◌≤◌, ◌<◌, List, [], ◌∷◌, ◌++◌, length, Option, Some, None, sym, ap, subst, ◌∙◌, inl, inr, arith}
use Rattle.std.specs.Str.{bytes_eq}
use Rattle.std.specs.List.{flat_map, AllByRecursion}
use Rattle.cc_module.specs.declared.module.Module.{Module}
use Rattle.cc_module.specs.Heaps.{padded, heap_bytes, name_entry, blob_entry}
use Rattle.cc_module.specs.Rows.{Cell, u1, u2, u4, name, guid, signature, blob, row, coded, all_cells}
use Rattle.cc_module.specs.Metadata.{names_of, blobs_of}
use Rattle.cc_module.specs.Storable.{IsSortedModule}
use Rattle.cc_tables.specs.declared.fault.TableFault.{TableFault}
use Rattle.cc_tables.specs.declared.headers.StreamLengths.{StreamLengths}
use Rattle.cc_tables.specs.declared.heap.Heap.{Heap}
use Rattle.cc_tables.specs.declared.heap.HeapKind.{HeapKind}
use Rattle.cc_tables.specs.declared.heap.HeapKind.TheVariants.{Names, Blobs}
use Rattle.cc_tables.specs.Faults.{first}
use Rattle.cc_tables.specs.Numbering.{entry_of, heap_texts, IsHeap, IsShort, AreShort}
use Rattle.cc_tables.specs.Reading.{piece, streams_end, streams_in, RowNumbers, AreRows, unused_fault, heaps_fault, OrderFault, signature_of, SignatureFault, ContentFault, HasRows}
use Rattle.cc_tables.proofs.Checking.{strings_at, blobs_at}
use Rattle.cc_tables.proofs.Found.{Told, all_told, blob_short, used_none}
use Rattle.cc_tables.proofs.TablesForm.{first_found, first_after}
use Rattle.cc_tables.proofs.Written.{all_short, padded_long}

-- ---- what is read is short

told_short : (strings blobs : List ℕ) (cell : Cell) → Told strings blobs cell → IsShort cell
told_short strings blobs (u1 value) h = tt
told_short strings blobs (u2 value) h = tt
told_short strings blobs (u4 value) h = tt
told_short strings blobs (name text) h = tt
told_short strings blobs (guid index) h = tt
told_short strings blobs (signature text) (n, h) = blob_short blobs n text h
told_short strings blobs (blob text) (n, h) = blob_short blobs n text h
told_short strings blobs (row table index) h = tt
told_short strings blobs (coded kind code) h = tt

all_told_short : (strings blobs : List ℕ) (cells : List Cell) → AllByRecursion (Told strings blobs) cells → AllByRecursion IsShort cells
all_told_short strings blobs [] h = tt
all_told_short strings blobs (cell ∷ cells) h = (told_short strings blobs cell h.0, all_told_short strings blobs cells h.1)

pub read_short : (lengths : StreamLengths) (bytes : List ℕ) (m : Module) → HasRows lengths (streams_in lengths bytes) m → AreShort m
read_short lengths bytes m h =
    let s = streams_in lengths bytes in
    all_short m (all_told_short s.strings s.blobs (all_cells m) (all_told s.strings s.blobs [] _ (all_cells m) h.rows))

-- ---- the heaps

heap_used : (kind : HeapKind) (heap : Heap) (texts : List (List ℕ)) (at : ℕ) (stream own : List ℕ) (r : Option TableFault) → IsHeap kind heap → heap_texts heap ≡ texts → stream ≡ own
    → unused_fault (entry_of heap.kind) at stream (heap_texts heap) ≡ r → unused_fault (entry_of kind) at own texts ≡ r
heap_used kind heap texts at stream own r h t e u = (λ i. unused_fault (entry_of (sym h.is i)) at (sym e i) (sym t i)) ∙ u

module _ (lengths : StreamLengths) (bytes : List ℕ) (m : Module) (names blobs : Heap) (n : IsHeap Names names × (heap_texts names ≡ names_of (all_cells m))) (b : IsHeap Blobs blobs × (heap_texts blobs ≡ blobs_of (all_cells m))) (first_stream : List ℕ)
    (a : first_stream ≡ piece (108 + lengths.tables) lengths.strings bytes) where
  abbrev cells : List Cell
  cells = all_cells m

  names_used : (r : Option TableFault) → unused_fault (entry_of names.kind) (108 + lengths.tables) first_stream (heap_texts names) ≡ r → unused_fault name_entry (108 + lengths.tables) (streams_in lengths bytes).strings (names_of cells) ≡ r
  names_used r u = heap_used Names names (names_of cells) (108 + lengths.tables) first_stream (streams_in lengths bytes).strings r n.0 n.1 (strings_at lengths bytes first_stream a) u

  abbrev blobs_after : Option TableFault
  blobs_after = unused_fault blob_entry (108 + lengths.tables + lengths.strings + lengths.user_strings + 16) (streams_in lengths bytes).blobs (blobs_of cells)

  pub names_unused : (fault : TableFault) → unused_fault (entry_of names.kind) (108 + lengths.tables) first_stream (heap_texts names) ≡ Some fault → ContentFault lengths (streams_in lengths bytes) m fault
  names_unused fault u = inl (first_found (unused_fault name_entry (108 + lengths.tables) (streams_in lengths bytes).strings (names_of cells)) blobs_after fault (names_used (Some fault) u))

  module _ (none : unused_fault (entry_of names.kind) (108 + lengths.tables) first_stream (heap_texts names) ≡ None) (last_stream : List ℕ) (d : last_stream ≡ piece (108 + lengths.tables + lengths.strings + lengths.user_strings + 16) lengths.blobs bytes) where
    blobs_used : (r : Option TableFault) → unused_fault (entry_of blobs.kind) (108 + lengths.tables + lengths.strings + lengths.user_strings + 16) last_stream (heap_texts blobs) ≡ r → blobs_after ≡ r
    blobs_used r u =
        heap_used Blobs blobs (blobs_of cells) (108 + lengths.tables + lengths.strings + lengths.user_strings + 16) last_stream (streams_in lengths bytes).blobs r b.0 b.1 (blobs_at lengths bytes last_stream d) u

    heaps_used : (r : Option TableFault) → unused_fault (entry_of blobs.kind) (108 + lengths.tables + lengths.strings + lengths.user_strings + 16) last_stream (heap_texts blobs) ≡ r → heaps_fault lengths (streams_in lengths bytes) cells ≡ r
    heaps_used r u = first_after (unused_fault name_entry (108 + lengths.tables) (streams_in lengths bytes).strings (names_of cells)) blobs_after r (names_used None none) (blobs_used r u)

    pub blobs_unused : (fault : TableFault) → unused_fault (entry_of blobs.kind) (108 + lengths.tables + lengths.strings + lengths.user_strings + 16) last_stream (heap_texts blobs) ≡ Some fault → ContentFault lengths (streams_in lengths bytes) m fault
    blobs_unused fault u = inl (heaps_used (Some fault) u)

    module _ (right : unused_fault (entry_of blobs.kind) (108 + lengths.tables + lengths.strings + lengths.user_strings + 16) last_stream (heap_texts blobs) ≡ None) where
      pub all_used : heaps_fault lengths (streams_in lengths bytes) cells ≡ None
      all_used = heaps_used None right

      -- the heap is no longer than its stream
      pub heap_within : length blobs.bytes.items ≤ length last_stream
      heap_within =
          let is : last_stream ≡ padded (heap_bytes (entry_of blobs.kind) (heap_texts blobs)) = used_none (entry_of blobs.kind) _ last_stream (heap_texts blobs) right in
          let own : blobs.bytes.items ≡ heap_bytes (entry_of blobs.kind) (heap_texts blobs) = b.0.bytes ∙ ap (λ (k : HeapKind). heap_bytes (entry_of k) (heap_texts blobs)) (sym b.0.is) in
          omega (arith, ap length is, ap length own, padded_long (heap_bytes (entry_of blobs.kind) (heap_texts blobs)))

      pub order_wrong : (fault : TableFault) → OrderFault m fault → ContentFault lengths (streams_in lengths bytes) m fault
      order_wrong fault f = inr (all_used, inl f)

      pub signature_wrong : IsSortedModule m → (fault : TableFault) → SignatureFault (108 + lengths.tables + lengths.strings + lengths.user_strings + 16) (heap_texts blobs) (flat_map signature_of cells) fault
          → ContentFault lengths (streams_in lengths bytes) m fault
      signature_wrong s fault f =
          inr (all_used, inr (s, subst (λ (x : List (List ℕ)). SignatureFault (108 + lengths.tables + lengths.strings + lengths.user_strings + 16) x (flat_map signature_of cells) fault) b.1 f))
