-- The checks before the heaps, one after the other.
use Rattle.std.proofs.Common.{◌≡◌, ℕ, ◌+◌, List, Option, Some, None, Result, Ok, Err, refl, sym, ap, ◌∙◌}
use Rattle.std.specs.Prelude.{◌≢◌}
use Rattle.std.specs.Result.{IsErrAnd}
use Rattle.cc_tables.specs.declared.fault.TableFault.{TableFault}
use Rattle.cc_tables.specs.declared.fault.TableFault.TheVariants.{Memory}
use Rattle.cc_tables.specs.declared.headers.StreamLengths.{StreamLengths}
use Rattle.cc_tables.specs.declared.width.StreamSizes.{StreamSizes}
use Rattle.cc_tables.specs.Faults.{lengths_in, headers_fault, first}
use Rattle.cc_tables.specs.Reading.{size_fault, length_fault, piece, streams_in, heap_lengths, tables_fault, start_fault}
use Rattle.cc_tables.proofs.TablesForm.{first_found, first_after}

module _ (bytes : List ℕ) where
  abbrev after_size : Option TableFault
  after_size = first (headers_fault bytes) (first (length_fault (lengths_in bytes) bytes) (tables_fault (heap_lengths (lengths_in bytes)) (streams_in (lengths_in bytes) bytes).tables))

  abbrev after_headers : Option TableFault
  after_headers = first (length_fault (lengths_in bytes) bytes) (tables_fault (heap_lengths (lengths_in bytes)) (streams_in (lengths_in bytes) bytes).tables)

  pub size_found : (fault : TableFault) → size_fault bytes ≡ Some fault → start_fault bytes ≡ Some fault
  unfolding start_fault
  size_found fault e = first_found (size_fault bytes) after_size fault e

  pub headers_found : (r : Option TableFault) → size_fault bytes ≡ None → after_size ≡ r → start_fault bytes ≡ r
  unfolding start_fault
  headers_found r e f = first_after (size_fault bytes) after_size r e f

  pub header_fault : (fault : TableFault) → size_fault bytes ≡ None → headers_fault bytes ≡ Some fault → start_fault bytes ≡ Some fault
  header_fault fault e f = headers_found (Some fault) e (first_found (headers_fault bytes) after_headers fault f)

  module _ (lengths : StreamLengths) (is : lengths ≡ lengths_in bytes) (size : size_fault bytes ≡ None) (headers : headers_fault bytes ≡ None) where
    pub end_found : (fault : TableFault) → length_fault lengths bytes ≡ Some fault → start_fault bytes ≡ Some fault
    end_found fault e =
        let f : length_fault (lengths_in bytes) bytes ≡ Some fault = ap (λ (s : StreamLengths). length_fault s bytes) (sym is) ∙ e in
        headers_found (Some fault) size (first_after (headers_fault bytes) after_headers (Some fault) headers (first_found (length_fault (lengths_in bytes) bytes) (tables_fault (heap_lengths (lengths_in bytes)) (streams_in (lengths_in bytes) bytes).tables) fault f))

    pub stream_is : (stream : List ℕ) → stream ≡ piece 108 lengths.tables bytes → stream ≡ (streams_in (lengths_in bytes) bytes).tables
    unfolding streams_in
    stream_is stream e = e ∙ ap (λ (s : StreamLengths). piece 108 s.tables bytes) is

    pub tables_found : (r : Option TableFault) (sizes : StreamSizes) (stream : List ℕ) → length_fault lengths bytes ≡ None → sizes ≡ heap_lengths lengths → stream ≡ piece 108 lengths.tables bytes → tables_fault sizes stream ≡ r → start_fault bytes ≡ r
    tables_found r sizes stream whole s t e =
        let f : length_fault (lengths_in bytes) bytes ≡ None = ap (λ (x : StreamLengths). length_fault x bytes) (sym is) ∙ whole in
        let known : tables_fault (heap_lengths (lengths_in bytes)) (streams_in (lengths_in bytes) bytes).tables ≡ r =
        (λ i. tables_fault (sym (s ∙ ap heap_lengths is) i) (sym (stream_is stream t) i)) ∙ e in
        headers_found r size (first_after (headers_fault bytes) after_headers r headers (first_after (length_fault (lengths_in bytes) bytes) (tables_fault (heap_lengths (lengths_in bytes)) (streams_in (lengths_in bytes) bytes).tables) r f known))

-- a fault that is handed on
pub handed : {A : Type 0} (result : Result A TableFault) (inner : TableFault) (P : TableFault → Type 0) → IsErrAnd result (λ other. other ≡ inner) → ((fault : TableFault) → inner ≡ fault → fault ≢ Memory → P fault)
    → (fault : TableFault) → result ≡ Err fault → fault ≢ Memory → P fault
handed (Ok done) inner P h k fault e n = absurd h
handed (Err other) inner P h k fault e n = let same : other ≡ fault = cc in k fault (sym h ∙ same) n
