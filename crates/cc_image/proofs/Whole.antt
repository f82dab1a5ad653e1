-- Images as a whole: what stands there is told without a fault, and what is told without a fault stands there.
use Rattle.std.proofs.Common.{◌≡◌, ℕ, ◌+◌, ◌-◌, ◌*◌, ◌/◌, ◌%◌, ◌<◌, ◌≤◌, ◌^◌, ltb, eqb, true, false, List, [], ◌∷◌, ◌++◌, length, replicate, take, drop, Option, Some, None, refl, sym, ap, subst, ◌∙◌, append_assoc, ◌⊎◌, inl, inr, arith}
use Rattle.std.specs.List.{AllByRecursion}
use Rattle.std.proofs.lemmas.Bool.{cases_lt, lt-ltb, le-ltb, eqb-true, eq-eqb}
use Rattle.std.proofs.lemmas.List.{length-append, length-replicate, length-take, length-drop, take_at, drop_at, drop-drop, take-append-drop}
use Rattle.cc_layout.specs.declared.field.FieldFault.{FieldFault}
use Rattle.cc_layout.specs.declared.field.FieldFault.TheVariants.{Missing, Differs}
use Rattle.cc_layout.specs.Numbers.{AreBytes}
use Rattle.cc_layout.specs.Layout.{fault_of, Spells, width_of, bytes_of}
use Rattle.cc_cil.specs.declared.body.Body.{Body}
use Rattle.cc_cil.proofs.Sound.{which}
use Rattle.cc_module.specs.declared.module.Module.{Module}
use Rattle.cc_module.specs.Rows.{all_cells, row_count}
use Rattle.cc_module.specs.Metadata.{context, root_layout, tables_stream, strings_stream, user_strings_stream, blob_stream, metadata_with, metadata_bytes, IsMetadata, GUID_SIZE}
use Rattle.cc_module.specs.Storable.{SECTION, FIRST_BODY, file_aligned, file_size, metadata_place, image_size, FitsCell, IsSortedModule, IsStorable, IsInRange}
use Rattle.cc_tables.specs.Reading.{IsTables}
use Rattle.cc_image.specs.declared.sizes.Sizes.{Sizes}
use Rattle.cc_image.specs.declared.fault.ImageFault.{ImageFault}
use Rattle.cc_image.specs.declared.fault.ImageFault.TheVariants.{Short, BadField}
use Rattle.cc_image.specs.Headers.{HEADERS, header_layout, cli_layout, sizes_in}
use Rattle.cc_image.specs.Images.{CLI_SIZE, bodies_bytes, sizes_for, sizes_of, contents, IsImage}
use Rattle.cc_image.specs.ImageFaults.{first, located, length_fault, fields_fault, cli_fault, headers_fault, LOADED_LATER, FIRST_BODY_AT, METADATA_PLACE_AT, METADATA_SIZE_AT, metadata_at, zeros_fault, bodies_in, bodies_end, gaps_fault, bodies_fault, place_fault, size_fault, ends_fault}
use Rattle.cc_image.proofs.Loops.{located_none}
use Rattle.cc_image.proofs.Fields.{IsProper, recovered, proper, HasHeaders, no_header_fault, all_spelled, all_wide, spells_length, spells-rest}
use Rattle.cc_image.proofs.Sections.{metadata_place_is, storable_size, storable_proper}
use Rattle.cc_image.proofs.Contents.{zeros_fine, zeros_are, both_none, none_first, AreTold, bodies_told, AreSound, bodies_sound}

-- ---- the headers

length_none : (end : ℕ) (bytes : List ℕ) → length_fault end bytes ≡ None → length bytes ≡ end
length_none end bytes h =
    elim (cases_lt (length bytes) end) [
      | inl short ↦ absurd (let g = rw (lt-ltb (length bytes) end short) at h in cc)
      | inr long ↦
          let g = rw (le-ltb (length bytes) end long) at h in
          elim (cases_lt end (length bytes)) [
            | inl more ↦ absurd (let k = rw (lt-ltb end (length bytes) more) at g in cc)
            | inr within ↦ omega (arith, long, within)
          ]
    ]

pub none_length : (end : ℕ) (bytes : List ℕ) → length bytes ≡ end → length_fault end bytes ≡ None
none_length end bytes h = rw (le-ltb (length bytes) end (omega (arith, h)), le-ltb end (length bytes) (omega (arith, h))) refl

pub record AreHeaders (bytes : List ℕ) : Type 0 where
  pub proper : IsProper (sizes_in bytes)
  pub size : length bytes ≡ HEADERS + (sizes_in bytes).section
  pub spelled : Spells (header_layout (sizes_in bytes) ++ cli_layout (sizes_in bytes)) bytes (drop FIRST_BODY_AT bytes)

pub headers_sound : (bytes : List ℕ) → AreBytes bytes → headers_fault bytes ≡ None → AreHeaders bytes
unfolding headers_fault
headers_sound bytes each h =
    let s = sizes_in bytes in
    let fields = both_none (fields_fault s bytes) (first (length_fault (HEADERS + s.section) bytes) (cli_fault s bytes)) h in
    let rest = both_none (length_fault (HEADERS + s.section) bytes) (cli_fault s bytes) fields.1 in
    let front = located_none (fault_of 0 (header_layout s) (take HEADERS bytes)) fields.0 in
    let cli = located_none (fault_of HEADERS (cli_layout s) (drop HEADERS bytes)) rest.1 in
    record { proper = proper bytes each front; size = length_none (HEADERS + s.section) bytes rest.0; spelled = all_spelled s bytes front cli }

pub headers_told : (s : Sizes) (bytes : List ℕ) → sizes_in bytes ≡ s → HasHeaders s bytes → length bytes ≡ HEADERS + s.section → headers_fault bytes ≡ None
unfolding headers_fault
headers_told s bytes is has long = rw is (none_first (fields_fault s bytes) _ (ap located has.fields) (none_first (length_fault (HEADERS + s.section) bytes) (cli_fault s bytes) (none_length (HEADERS + s.section) bytes long) (ap located has.cli)))

-- ---- the metadata: each GUID has as many bytes

same_behind : (a x y : List ℕ) → length x ≡ length y → length (a ++ x) ≡ length (a ++ y)
same_behind a x y e = length-append a x ∙ ap (λ (n : ℕ). length a + n) e ∙ sym (length-append a y)

same_before : (x y a : List ℕ) → length x ≡ length y → length (x ++ a) ≡ length (y ++ a)
same_before x y a e = length-append x a ∙ ap (λ (n : ℕ). n + length a) e ∙ sym (length-append y a)

joined_length : (a b c d unique other last : List ℕ) → length unique ≡ length other → length (a ++ (b ++ (c ++ (d ++ (unique ++ last))))) ≡ length (a ++ (b ++ (c ++ (d ++ (other ++ last)))))
joined_length a b c d unique other last e =
    same_behind a (b ++ (c ++ (d ++ (unique ++ last)))) (b ++ (c ++ (d ++ (other ++ last))))
    (same_behind b (c ++ (d ++ (unique ++ last))) (c ++ (d ++ (other ++ last)))
    (same_behind c (d ++ (unique ++ last)) (d ++ (other ++ last))
    (same_behind d (unique ++ last) (other ++ last) (same_before unique other last e))))

pub metadata_length : (unique other : List ℕ) (m : Module) → length unique ≡ length other → length (metadata_with unique m) ≡ length (metadata_with other m)
unfolding metadata_with
metadata_length unique other m e =
    let c = context m in
    let rows = tables_stream c (all_cells m) in
    let names = strings_stream c.names in
    let texts = user_strings_stream m.texts in
    let blobs = blob_stream c.blobs in
    joined_length (bytes_of (root_layout rows names texts blobs)) rows names texts unique other blobs e

pub of_module_length : (m : Module) (metadata : List ℕ) → IsMetadata m metadata → length metadata ≡ length (metadata_bytes m)
of_module_length m metadata (unique, long, is) = ap length is ∙ metadata_length unique (replicate GUID_SIZE 0) m (long ∙ sym (length-replicate {A = ℕ} GUID_SIZE 0))

-- ---- what stands there is told

pub record IsToldImage (m : Module) (bytes metadata : List ℕ) : Type 0 where
  pub sizes : sizes_in bytes ≡ sizes_of m
  pub headers : headers_fault bytes ≡ None
  pub metadata_is : metadata_at (sizes_in bytes) bytes ≡ metadata
  pub bodies : AreTold 1 FIRST_BODY_AT m.methods bytes m.bodies
  pub ends : ends_fault (sizes_in bytes) (bodies_end FIRST_BODY_AT m.methods bytes) (gaps_fault FIRST_BODY_AT m.methods bytes) bytes ≡ None

module _ (m : Module) (bytes : List ℕ) (each : AreBytes bytes) (h : IsStorable m) (g : IsInRange m) (image : IsImage m bytes) where
  abbrev sizes : Sizes
  sizes = sizes_of m

  abbrev bodies_size : ℕ
  bodies_size = length (bodies_bytes m.bodies)

  abbrev tables_size : ℕ
  tables_size = length (metadata_bytes m)

  abbrev tail : List ℕ
  tail = replicate (sizes.section - sizes.used) 0

  abbrev told_behind : List ℕ
  told_behind = image.metadata ++ tail

  is_proper : IsProper sizes
  is_proper = storable_proper m h g.entry

  told_sizes : sizes_in bytes ≡ sizes
  told_sizes = recovered sizes bytes (contents sizes m.bodies image.metadata) is_proper image.fields

  d_is : length image.metadata ≡ tables_size
  d_is = of_module_length m image.metadata image.is_metadata

  section_is : (sizes.section ≡ file_aligned (CLI_SIZE + bodies_size + tables_size)) × (sizes.used ≡ CLI_SIZE + bodies_size + tables_size) × (sizes.metadata_place ≡ FIRST_BODY + bodies_size) × (sizes.metadata_size ≡ tables_size)
  unfolding sizes_of
  section_is = (refl, refl, refl, refl)

  length_is : length bytes ≡ HEADERS + sizes.section
  length_is =
      let long = spells_length (header_layout sizes ++ cli_layout sizes) bytes (contents sizes m.bodies image.metadata) image.fields in
      omega (arith, long, all_wide sizes, length-append (bodies_bytes m.bodies) told_behind, length-append image.metadata tail, length-replicate {A = ℕ} (sizes.section - sizes.used) 0, d_is, section_is.0, section_is.1)

  told_section : drop FIRST_BODY_AT bytes ≡ bodies_bytes m.bodies ++ told_behind
  told_section = sym (spells-rest (header_layout sizes ++ cli_layout sizes) bytes (contents sizes m.bodies image.metadata) image.fields ∙ ap (λ (n : ℕ). drop n bytes) (all_wide sizes))

  behind_bodies : drop (FIRST_BODY_AT + bodies_size) bytes ≡ told_behind
  behind_bodies = sym (drop-drop bodies_size FIRST_BODY_AT bytes) ∙ ap (drop bodies_size) told_section ∙ drop_at (bodies_bytes m.bodies) told_behind bodies_size refl

  told_metadata : metadata_at sizes bytes ≡ image.metadata
  told_metadata =
      let place : sizes.metadata_place - LOADED_LATER ≡ FIRST_BODY_AT + bodies_size = omega (arith, section_is.2) in
      ap (λ (n : ℕ). take sizes.metadata_size (drop n bytes)) place ∙ ap (take sizes.metadata_size) behind_bodies ∙ take_at image.metadata tail sizes.metadata_size (d_is ∙ sym section_is.3)

  told_bodies : AreTold 1 FIRST_BODY_AT m.methods bytes m.bodies
  told_bodies = bodies_told 1 FIRST_BODY_AT m.methods bytes told_behind m.bodies each (omega (arith, length_is, is_proper.section)) refl h.bodies g.bodies h.places told_section

  tail_zeros : drop (HEADERS + sizes.used) bytes ≡ tail
  tail_zeros =
      let place : FIRST_BODY_AT + bodies_size + length image.metadata ≡ HEADERS + sizes.used = omega (arith, d_is, section_is.1) in
      ap (λ (n : ℕ). drop n bytes) (sym place) ∙ sym (drop-drop (length image.metadata) (FIRST_BODY_AT + bodies_size) bytes) ∙ ap (drop (length image.metadata)) behind_bodies ∙ drop_at image.metadata tail (length image.metadata) refl

  told_ends : ends_fault sizes (bodies_end FIRST_BODY_AT m.methods bytes) (gaps_fault FIRST_BODY_AT m.methods bytes) bytes ≡ None
  told_ends =
      let end = bodies_end FIRST_BODY_AT m.methods bytes in
      let place : place_fault sizes end ≡ None = rw (eq-eqb sizes.metadata_place (end + LOADED_LATER) (omega (arith, told_bodies.end, section_is.2))) refl in
      let size : size_fault sizes ≡ None = rw (eq-eqb (sizes.metadata_place + sizes.metadata_size) (HEADERS + sizes.used + LOADED_LATER) (omega (arith, section_is.1, section_is.2, section_is.3))) refl in
      let zeros : zeros_fault (HEADERS + sizes.used) (drop (HEADERS + sizes.used) bytes) ≡ None = ap (λ (x : List ℕ). zeros_fault (HEADERS + sizes.used) x) tail_zeros ∙ zeros_fine (HEADERS + sizes.used) (sizes.section - sizes.used) in
      none_first (place_fault sizes end) _ place (none_first (size_fault sizes) _ size (none_first (gaps_fault FIRST_BODY_AT m.methods bytes) _ told_bodies.gaps zeros))

  pub image_told : IsToldImage m bytes image.metadata
  image_told = record {
    sizes = told_sizes;
    headers = headers_told sizes bytes told_sizes (no_header_fault sizes bytes (contents sizes m.bodies image.metadata) image.fields) length_is;
    metadata_is = rw told_sizes told_metadata;
    bodies = told_bodies;
    ends = rw told_sizes told_ends;
  }

-- ---- what is told without a fault stands there

abbrev pub with_bodies : Module → List Body → ℕ → Module
with_bodies m bodies entry = record m { bodies = bodies; entry = entry }

pub with_bodies_metadata : (m : Module) (bodies : List Body) (entry : ℕ) (metadata : List ℕ) → IsMetadata m metadata → IsMetadata (with_bodies m bodies entry) metadata
unfolding metadata_with
with_bodies_metadata m bodies entry metadata h = h

place_sound : (s : Sizes) (end : ℕ) → place_fault s end ≡ None → s.metadata_place ≡ end + LOADED_LATER
place_sound s end h =
    elim (which (eqb s.metadata_place (end + LOADED_LATER))) [
      | inl same ↦ eqb-true s.metadata_place (end + LOADED_LATER) same
      | inr other ↦ absurd (let g = rw other at h in cc)
    ]

size_sound : (s : Sizes) → size_fault s ≡ None → s.metadata_place + s.metadata_size ≡ HEADERS + s.used + LOADED_LATER
size_sound s h =
    elim (which (eqb (s.metadata_place + s.metadata_size) (HEADERS + s.used + LOADED_LATER))) [
      | inl same ↦ eqb-true (s.metadata_place + s.metadata_size) (HEADERS + s.used + LOADED_LATER) same
      | inr other ↦ absurd (let g = rw other at h in cc)
    ]

pub record IsSoundImage (m : Module) (bytes : List ℕ) : Type 0 where
  pub storable : IsStorable m
  pub image : IsImage m bytes

module _ (bytes : List ℕ) (m : Module) (each : AreBytes bytes) (headers : headers_fault bytes ≡ None) (tables : IsTables m (metadata_at (sizes_in bytes) bytes))
    (fine : bodies_fault 1 FIRST_BODY_AT m.methods bytes ≡ None) (ends : ends_fault (sizes_in bytes) (bodies_end FIRST_BODY_AT m.methods bytes) (gaps_fault FIRST_BODY_AT m.methods bytes) bytes ≡ None) where
  abbrev s : Sizes
  s = sizes_in bytes

  abbrev bodies : List Body
  bodies = bodies_in FIRST_BODY_AT m.methods bytes

  abbrev whole : Module
  whole = with_bodies m bodies s.entry

  abbrev end : ℕ
  end = bodies_end FIRST_BODY_AT m.methods bytes

  abbrev metadata : List ℕ
  metadata = metadata_at s bytes

  head : AreHeaders bytes
  head = headers_sound bytes each headers

  abbrev zeros_part : Option ImageFault
  zeros_part = zeros_fault (HEADERS + s.used) (drop (HEADERS + s.used) bytes)

  no_place : (place_fault s end ≡ None) × (first (size_fault s) (first (gaps_fault FIRST_BODY_AT m.methods bytes) zeros_part) ≡ None)
  no_place = both_none (place_fault s end) (first (size_fault s) (first (gaps_fault FIRST_BODY_AT m.methods bytes) zeros_part)) ends

  no_size : (size_fault s ≡ None) × (first (gaps_fault FIRST_BODY_AT m.methods bytes) zeros_part ≡ None)
  no_size = both_none (size_fault s) (first (gaps_fault FIRST_BODY_AT m.methods bytes) zeros_part) no_place.1

  no_gaps : (gaps_fault FIRST_BODY_AT m.methods bytes ≡ None) × (zeros_part ≡ None)
  no_gaps = both_none (gaps_fault FIRST_BODY_AT m.methods bytes) zeros_part no_size.1

  few : length bytes < 2 ^ 32
  few = omega (arith, head.size, head.proper.section)

  least : FIRST_BODY_AT ≤ length bytes
  least = let long = spells_length (header_layout s ++ cli_layout s) bytes (drop FIRST_BODY_AT bytes) head.spelled in omega (arith, long, all_wide s)

  multiple : length bytes % 4 ≡ 0
  multiple = omega (arith, head.size, head.proper.rounded)

  sound : AreSound FIRST_BODY_AT m.methods bytes
  sound = bodies_sound 1 FIRST_BODY_AT m.methods bytes each few refl multiple least fine no_gaps.0

  place_is : s.metadata_place ≡ end + LOADED_LATER
  place_is = place_sound s end no_place.0

  size_is : s.metadata_place + s.metadata_size ≡ HEADERS + s.used + LOADED_LATER
  size_is = size_sound s no_size.0

  start_is : s.metadata_place - LOADED_LATER ≡ end
  start_is = omega (arith, place_is)

  metadata_is : metadata ≡ take s.metadata_size (drop end bytes)
  metadata_is = ap (λ (n : ℕ). take s.metadata_size (drop n bytes)) start_is

  used_within : s.used ≤ s.section
  used_within = omega (arith, head.proper.rounded)

  metadata_long : length metadata ≡ s.metadata_size
  metadata_long = ap length metadata_is ∙ omega (arith, length-take s.metadata_size (drop end bytes), length-drop end bytes, size_is, place_is, used_within, head.size)

  bytes_long : length (metadata_bytes whole) ≡ s.metadata_size
  bytes_long = sym (of_module_length whole metadata (with_bodies_metadata m bodies s.entry metadata tables.is)) ∙ metadata_long

  used_is : s.used ≡ CLI_SIZE + length (bodies_bytes bodies) + length (metadata_bytes whole)
  used_is = omega (arith, size_is, place_is, sound.end, bytes_long)

  sizes_are : sizes_of whole ≡ s
  unfolding sizes_of
  sizes_are =
      let used = used_is in
      let section : file_aligned (CLI_SIZE + length (bodies_bytes bodies) + length (metadata_bytes whole)) ≡ s.section = ap file_aligned (sym used) ∙ sym head.proper.rounded in
      let place : FIRST_BODY + length (bodies_bytes bodies) ≡ s.metadata_place = omega (arith, place_is, sound.end) in
      λ i. record { section = section i; used = sym used i; metadata_place = place i; metadata_size = bytes_long i; entry = s.entry }

  zeros_behind : drop (HEADERS + s.used) bytes ≡ replicate (s.section - s.used) 0
  zeros_behind =
      zeros_are (HEADERS + s.used) (drop (HEADERS + s.used) bytes) no_gaps.1
      ∙ ap (λ (n : ℕ). replicate n 0) (omega (arith, length-drop (HEADERS + s.used) bytes, head.size, used_within))

  metadata_end : end + s.metadata_size ≡ HEADERS + s.used
  metadata_end = omega (arith, size_is, place_is)

  sound_behind : drop end bytes ≡ metadata ++ replicate (s.section - s.used) 0
  sound_behind =
      sym (take-append-drop s.metadata_size (drop end bytes)) ∙ ap (λ (x : List ℕ). x ++ drop s.metadata_size (drop end bytes)) (sym metadata_is)
      ∙ ap (λ (x : List ℕ). metadata ++ x) (drop-drop s.metadata_size end bytes ∙ ap (λ (n : ℕ). drop n bytes) metadata_end ∙ zeros_behind)

  sound_section : drop FIRST_BODY_AT bytes ≡ contents s bodies metadata
  sound_section = sound.text ∙ ap (λ (x : List ℕ). bodies_bytes bodies ++ x) sound_behind

  fields : Spells (header_layout s ++ cli_layout s) bytes (contents s bodies metadata)
  fields = subst (λ (x : List ℕ). Spells (header_layout s ++ cli_layout s) bytes x) sound_section head.spelled

  size_bounded : image_size whole < 2 ^ 28
  unfolding image_size
  size_bounded =
      let used : metadata_place whole + length (metadata_bytes whole) - SECTION ≡ s.used = omega (arith, metadata_place_is whole, used_is) in
      rw used (omega (arith, head.proper.section, head.proper.rounded))

  pub image_sound : IsSoundImage whole bytes
  image_sound = record {
    storable = record {
      columns = tables.columns;
      sorted = record {
        interface_impls = tables.sorted.interface_impls;
        constants = tables.sorted.constants;
        method_semantics = tables.sorted.method_semantics;
        method_impls = tables.sorted.method_impls;
        generic_params = tables.sorted.generic_params;
        generic_param_constraints = tables.sorted.generic_param_constraints;
      };
      bodies = sound.spelled;
      places = sound.places;
      user_strings = tables.user_strings;
      size = size_bounded;
    };
    image = record {
      metadata = metadata;
      is_metadata = with_bodies_metadata m bodies s.entry metadata tables.is;
      fields = subst (λ (x : Sizes). Spells (header_layout x ++ cli_layout x) bytes (contents x bodies metadata)) (sym sizes_are) fields;
    };
  }
