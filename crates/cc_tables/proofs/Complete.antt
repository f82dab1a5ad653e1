-- The metadata of a module has the headers that it must have.
use Rattle.std.proofs.Common.{◌≡◌, ℕ, ◌+◌, ◌<◌, ◌^◌, Bool, true, false, ltb, ◌&&◌, min, Option, Some, None, List, [], ◌∷◌, ◌++◌, length, replicate, refl, sym, ap, subst, ◌∙◌, arith}
use Rattle.std.specs.List.{flat_map, AllByRecursion}
use Rattle.std.proofs.Math.ListN.{length-replicate}
use Rattle.std.proofs.lemmas.Bool.{ltb-true}
use Rattle.std.proofs.lemmas.List.{length-append}
use Rattle.cc_cil.specs.Bodies.{padding}
use Rattle.cc_layout.specs.declared.field.Field.{Field}
use Rattle.cc_layout.specs.Layout.{run, bytes_of, FitsField, Spells, fault_of, peeked}
use Rattle.cc_layout.proofs.Laws.{bytes_of-spells, spells-no_fault, peeked-stands}
use Rattle.cc_module.specs.declared.module.Module.{Module}
use Rattle.cc_module.specs.Heaps.{padded, heap_bytes, name_entry, blob_entry, text_entry}
use Rattle.cc_module.specs.Rows.{all_cells}
use Rattle.cc_module.specs.Metadata.{context, sizes_of, tables_header, cell_bytes, names_of, blobs_of, root, stream_header, tables_stream, strings_stream, user_strings_stream, blob_stream, metadata_with, GUID_SIZE}
use Rattle.cc_tables.specs.declared.headers.StreamLengths.{StreamLengths}
use Rattle.cc_tables.specs.Faults.{whole, lengths_in, headers, first_located, headers_fault, HeadersStand}
use Rattle.cc_tables.proofs.Written.{storable_size, streams_short}

-- ---- values within their widths, by a test

fits_value : ℕ → Option ℕ → Bool
fits_value width None = true
fits_value width (Some v) = ltb v (256 ^ width)

fits_all : List Field → Bool
fits_all [] = true
fits_all (f ∷ fields) = fits_value f.width f.value && fits_all fields

both : (a b : Bool) → (a && b) ≡ true → (a ≡ true) × (b ≡ true)
both true true e = (refl, refl)
both true false e = absurd cc
both false b e = absurd cc

value_fits : (width : ℕ) (value : Option ℕ) → fits_value width value ≡ true → FitsField (record { width = width; value = value })
unfolding fits_value
value_fits width None e = tt
value_fits width (Some v) e = ltb-true _ _ e

all_fit : (fields : List Field) → fits_all fields ≡ true → AllByRecursion FitsField fields
unfolding fits_all
all_fit [] e = tt
all_fit (f ∷ fields) e = let p = both (fits_value f.width f.value) (fits_all fields) e in (value_fits f.width f.value p.0, all_fit fields p.1)

fit_both : (a b : List Field) → AllByRecursion FitsField a → AllByRecursion FitsField b → AllByRecursion FitsField (a ++ b)
fit_both [] b h k = k
fit_both (f ∷ a) b h k = (h.0, fit_both a b h.1 k)

header_fits : (offset size : ℕ) (title : List ℕ) → offset < 2 ^ 32 → size < 2 ^ 32 → fits_all (run title) ≡ true → AllByRecursion FitsField (stream_header offset size title)
header_fits offset size title o s e = (o, (s, all_fit (run title) e))

-- ---- the headers of streams of these sizes

whole_padded : (bytes : List ℕ) → whole (length (padded bytes)) ≡ length (padded bytes)
whole_padded bytes =
    let long : length (padded bytes) ≡ length bytes + padding (length bytes) = length-append bytes (replicate (padding (length bytes)) 0) ∙ ap (λ (n : ℕ). length bytes + n) (length-replicate (padding (length bytes)) 0) in
    rw long (omega arith)

module _ (s : StreamLengths) (fits : 108 + s.tables + s.strings + s.user_strings + 16 + s.blobs < 2 ^ 32) where
  headers_fit : AllByRecursion FitsField (headers s)
  unfolding headers fits_all fits_value
  headers_fit =
      let first : List Field = stream_header 108 s.tables (0x23 ∷ 0x7E ∷ 0 ∷ 0 ∷ []) in
      let second : List Field = stream_header (108 + s.tables) s.strings (0x23 ∷ 0x53 ∷ 0x74 ∷ 0x72 ∷ 0x69 ∷ 0x6E ∷ 0x67 ∷ 0x73 ∷ 0 ∷ 0 ∷ 0 ∷ 0 ∷ []) in
      let third : List Field = stream_header (108 + s.tables + s.strings) s.user_strings (0x23 ∷ 0x55 ∷ 0x53 ∷ 0 ∷ []) in
      let fourth : List Field = stream_header (108 + s.tables + s.strings + s.user_strings) 16 (0x23 ∷ 0x47 ∷ 0x55 ∷ 0x49 ∷ 0x44 ∷ 0 ∷ 0 ∷ 0 ∷ []) in
      let fifth : List Field = stream_header (108 + s.tables + s.strings + s.user_strings + 16) s.blobs (0x23 ∷ 0x42 ∷ 0x6C ∷ 0x6F ∷ 0x62 ∷ 0 ∷ 0 ∷ 0 ∷ []) in
      let first_fits = header_fits 108 s.tables (0x23 ∷ 0x7E ∷ 0 ∷ 0 ∷ []) (omega arith) (omega arith) refl in
      let second_fits = header_fits (108 + s.tables) s.strings (0x23 ∷ 0x53 ∷ 0x74 ∷ 0x72 ∷ 0x69 ∷ 0x6E ∷ 0x67 ∷ 0x73 ∷ 0 ∷ 0 ∷ 0 ∷ 0 ∷ []) (omega arith) (omega arith) refl in
      let third_fits = header_fits (108 + s.tables + s.strings) s.user_strings (0x23 ∷ 0x55 ∷ 0x53 ∷ 0 ∷ []) (omega arith) (omega arith) refl in
      let fourth_fits = header_fits (108 + s.tables + s.strings + s.user_strings) 16 (0x23 ∷ 0x47 ∷ 0x55 ∷ 0x49 ∷ 0x44 ∷ 0 ∷ 0 ∷ 0 ∷ []) (omega arith) (omega arith) refl in
      let fifth_fits = header_fits (108 + s.tables + s.strings + s.user_strings + 16) s.blobs (0x23 ∷ 0x42 ∷ 0x6C ∷ 0x6F ∷ 0x62 ∷ 0 ∷ 0 ∷ 0 ∷ []) (omega arith) (omega arith) refl in
      fit_both root (first ++ (second ++ (third ++ (fourth ++ fifth)))) (all_fit root refl)
      (fit_both first (second ++ (third ++ (fourth ++ fifth))) first_fits
      (fit_both second (third ++ (fourth ++ fifth)) second_fits
      (fit_both third (fourth ++ fifth) third_fits (fit_both fourth fifth fourth_fits fifth_fits))))

  module _ (bytes rest : List ℕ) (is : bytes ≡ bytes_of (headers s) ++ rest) where
    spelled : Spells (headers s) bytes rest
    spelled = subst (λ (x : List ℕ). Spells (headers s) x rest) (sym is) (bytes_of-spells (headers s) rest headers_fit)

    pub lengths_told : whole s.tables ≡ s.tables → whole s.strings ≡ s.strings → whole s.user_strings ≡ s.user_strings → whole s.blobs ≡ s.blobs → s.user_strings < 2 ^ 24 → lengths_in bytes ≡ s
    unfolding headers lengths_in
    lengths_told t r u b few =
        let tables = peeked-stands (headers s) bytes rest 23 36 4 s.tables spelled refl refl in
        let strings = peeked-stands (headers s) bytes rest 29 48 4 s.strings spelled refl refl in
        let user_strings = peeked-stands (headers s) bytes rest 43 68 4 s.user_strings spelled refl refl in
        let blobs = peeked-stands (headers s) bytes rest 59 96 4 s.blobs spelled refl refl in
        let least : min s.user_strings 0xFFFFFC ≡ s.user_strings = omega (arith, u, few) in
        let users : min (whole (peeked 4 68 bytes)) 0xFFFFFC ≡ s.user_strings = ap (λ (n : ℕ). min (whole n) 0xFFFFFC) user_strings ∙ ap (λ (n : ℕ). min n 0xFFFFFC) u ∙ least in
        λ i. record { tables = (ap whole tables ∙ t) i; strings = (ap whole strings ∙ r) i; user_strings = users i; blobs = (ap whole blobs ∙ b) i }

    pub no_fault : lengths_in bytes ≡ s → headers_fault bytes ≡ None
    no_fault e = ap (λ (x : StreamLengths). first_located (fault_of 0 (headers x) bytes)) e ∙ ap first_located (spells-no_fault 0 (headers s) bytes rest spelled)

-- ---- the metadata of a module

abbrev pub lengths_of : Module → StreamLengths
lengths_of m = record {
  tables = length (tables_stream (context m) (all_cells m));
  strings = length (strings_stream (names_of (all_cells m)));
  user_strings = length (user_strings_stream m.texts);
  blobs = length (blob_stream (blobs_of (all_cells m)));
}

pub whole_tables : (m : Module) → whole (length (tables_stream (context m) (all_cells m))) ≡ length (tables_stream (context m) (all_cells m))
whole_tables m = whole_padded (bytes_of (tables_header (sizes_of (context m))) ++ flat_map (cell_bytes (context m)) (all_cells m))

pub whole_strings : (names : List (List ℕ)) → whole (length (strings_stream names)) ≡ length (strings_stream names)
whole_strings names = whole_padded (heap_bytes name_entry names)

pub whole_user_strings : (texts : List (List ℕ)) → whole (length (user_strings_stream texts)) ≡ length (user_strings_stream texts)
whole_user_strings texts = whole_padded (0 ∷ flat_map text_entry texts)

pub whole_blobs : (blobs : List (List ℕ)) → whole (length (blob_stream blobs)) ≡ length (blob_stream blobs)
whole_blobs blobs = whole_padded (heap_bytes blob_entry blobs)

pub headers_stand : HeadersStand
unfolding metadata_with headers
headers_stand m bytes h (unique, long, e) =
    let rows : List ℕ = tables_stream (context m) (all_cells m) in
    let strings : List ℕ = strings_stream (names_of (all_cells m)) in
    let user_strings : List ℕ = user_strings_stream m.texts in
    let blobs : List ℕ = blob_stream (blobs_of (all_cells m)) in
    let short = streams_short rows strings user_strings (replicate GUID_SIZE 0) blobs in
    let fits : 108 + length rows + length strings + length user_strings + 16 + length blobs < 2 ^ 32 = omega (arith, storable_size m h, short) in
    let rest : List ℕ = rows ++ (strings ++ (user_strings ++ (unique ++ blobs))) in
    no_fault (lengths_of m) fits bytes rest e (lengths_told (lengths_of m) fits bytes rest e (whole_tables m) (whole_strings (names_of (all_cells m))) (whole_user_strings m.texts) (whole_blobs (blobs_of (all_cells m))) h.user_strings)
