-- What a reader of metadata answers: a module that is read, or the first fault.
use Rattle.std.proofs.Common.{◌≡◌, ◌⊎◌, ℕ, List, [], Option, Some, None, Result, Ok, Err, refl, sym, ap, subst, ◌∙◌, inl, inr}
use Rattle.std.specs.Prelude.{IfOk, IsOkUnless}
use Rattle.std.specs.List.{flat_map, AllByRecursion}
use Rattle.cc_layout.specs.Numbers.{AreBytes}
use Rattle.cc_module.specs.declared.module.Module.{Module}
use Rattle.cc_module.specs.Rows.{all_cells}
use Rattle.cc_module.specs.Signatures.{IsSignature}
use Rattle.cc_module.specs.Storable.{IsSortedModule}
use Rattle.cc_tables.specs.declared.fault.TableFault.{TableFault}
use Rattle.cc_tables.specs.declared.fault.TableFault.TheVariants.{BadRoot, BadStream, BadTable, BadBlob, NotSorted, Memory}
use Rattle.cc_tables.specs.declared.headers.StreamLengths.{StreamLengths}
use Rattle.cc_tables.specs.Counts.{counts_in}
use Rattle.cc_tables.specs.Faults.{lengths_in, headers_fault, first}
use Rattle.cc_tables.specs.Forms.{user_strings_heap, HasForm}
use Rattle.cc_tables.specs.Reading.{size_fault, length_fault, streams_in, heap_lengths, tables_fault, start_fault, RowFault, rows_of, heaps_fault, signature_of, ContentFault, HasRows, AreFormed, FormsFault, IsFirstFault, IsTables}
use Rattle.cc_tables.proofs.Forming.{first_none}
use Rattle.cc_tables.proofs.Found.{IsRead, found_tables}
use Rattle.cc_tables.proofs.Once.{no_fault, one_module}
use Rattle.cc_tables.proofs.Stored.{tables_read}

memory_or : (fault : TableFault) → (fault ≡ Memory) ⊎ (fault ≡ Memory → ⊥)
memory_or (BadRoot place) = inr (λ e. cc)
memory_or (BadStream place) = inr (λ e. cc)
memory_or (BadTable table place) = inr (λ e. cc)
memory_or (BadBlob place) = inr (λ e. cc)
memory_or (NotSorted table) = inr (λ e. cc)
memory_or Memory = inl refl

module _ (bytes : List ℕ) where
  -- of metadata a reader errs for want of memory alone
  pub memory_alone : (m : Module) (result : Result Module TableFault) (y : TableFault) → result ≡ Err y → ((fault : TableFault) → result ≡ Err fault → (fault ≡ Memory → ⊥) → IsFirstFault bytes fault) → IsTables m bytes
      → IfOk result (λ r. r ≡ m) × IsOkUnless result Memory
  memory_alone m (Ok value) y e h k = absurd cc
  memory_alone m (Err fault) y e h k = (
    tt,
    elim (memory_or fault) [
      | inl is ↦ is
      | inr other ↦ absurd (no_fault m bytes fault (tables_read m bytes k) (h fault refl other))
    ],
  )

  module _ (lengths : StreamLengths) (is : lengths ≡ lengths_in bytes) (start : start_fault bytes ≡ None) where
    -- the stream #~ has no fault but for what its rows are
    pub tables_formed : tables_fault (heap_lengths lengths) (streams_in lengths bytes).tables ≡ None
    unfolding start_fault
    tables_formed =
        let told = lengths_in bytes in
        let last = first (length_fault told bytes) (tables_fault (heap_lengths told) (streams_in told bytes).tables) in
        let after_size = (first_none (size_fault bytes) (first (headers_fault bytes) last) start).1 in
        let after_headers = (first_none (headers_fault bytes) last after_size).1 in
        subst (λ (l : StreamLengths). tables_fault (heap_lengths l) (streams_in l bytes).tables ≡ None) (sym is) (first_none (length_fault told bytes) (tables_fault (heap_lengths told) (streams_in told bytes).tables) after_headers).1

    pub form_wrong : (fault : TableFault) → FormsFault lengths (streams_in lengths bytes) fault → IsFirstFault bytes fault
    form_wrong fault f = inr (start, inl (subst (λ (l : StreamLengths). FormsFault l (streams_in l bytes) fault) is f))

    module _ (formed : AreFormed (streams_in lengths bytes)) where
      formed_told : AreFormed (streams_in (lengths_in bytes) bytes)
      formed_told = subst (λ (l : StreamLengths). AreFormed (streams_in l bytes)) is formed

      pub row_wrong : (fault : TableFault) → RowFault (streams_in lengths bytes).strings (streams_in lengths bytes).blobs [] (rows_of lengths (streams_in lengths bytes)) fault → IsFirstFault bytes fault
      row_wrong fault f =
          inr (start, inr (formed_told, inl (subst (λ (l : StreamLengths). RowFault (streams_in l bytes).strings (streams_in l bytes).blobs [] (rows_of l (streams_in l bytes)) fault) is f)))

      module _ (m : Module) (rows : HasRows lengths (streams_in lengths bytes) m) where
        rows_told : HasRows (lengths_in bytes) (streams_in (lengths_in bytes) bytes) m
        rows_told = subst (λ (l : StreamLengths). HasRows l (streams_in l bytes) m) is rows

        pub content_wrong : (fault : TableFault) → ContentFault lengths (streams_in lengths bytes) m fault → IsFirstFault bytes fault
        content_wrong fault f = inr (start, inr (formed_told, inr (m, rows_told, subst (λ (l : StreamLengths). ContentFault l (streams_in l bytes) m fault) is f)))

        module _ (texts : HasForm user_strings_heap (streams_in lengths bytes).user_strings m.texts) (used : heaps_fault lengths (streams_in lengths bytes) (all_cells m) ≡ None) (sorted : IsSortedModule m)
            (signed : AllByRecursion IsSignature (flat_map signature_of (all_cells m))) (bodies : m.bodies ≡ []) (entry : m.entry ≡ 0) where
          read : IsRead m bytes
          read = record {
            start = start;
            texts = subst (λ (l : StreamLengths). HasForm user_strings_heap (streams_in l bytes).user_strings m.texts) is texts;
            formed = formed_told;
            rows = rows_told;
            used = subst (λ (l : StreamLengths). heaps_fault l (streams_in l bytes) (all_cells m) ≡ None) is used;
            sorted = sorted;
            signatures = signed;
            no_bodies = bodies;
            no_entry = entry;
          }

          pub module_found : AreBytes bytes → IsTables m bytes
          module_found are = found_tables m bytes are read

          pub module_only : (other : Module) → IsTables other bytes → m ≡ other
          module_only other h = one_module m other bytes read (tables_read other bytes h)
