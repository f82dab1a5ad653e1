-- What the reader of images answers.
use Rattle.std.proofs.Common.{◌≡◌, ℕ, ◌+◌, ◌-◌, ◌*◌, ◌/◌, ◌%◌, ◌<◌, ◌≤◌, ◌^◌, List, [], ◌++◌, length, take, drop, Option, Some, None, refl, sym, ap, subst, ◌∙◌, ◌⊎◌, inl, inr, arith}
use Rattle.std.specs.Prelude.{Result, Ok, Err, IfOk, IsOkUnless}
use Rattle.std.specs.List.{AllByRecursion}
use Rattle.std.proofs.lemmas.List.{length-take, length-drop}
use Rattle.cc_layout.specs.Numbers.{AreBytes}
use Rattle.cc_layout.specs.Layout.{width_of}
use Rattle.cc_cil.specs.declared.body.Body.{Body}
use Rattle.cc_module.specs.declared.rows.MethodDefRow.{MethodDefRow}
use Rattle.cc_module.specs.declared.module.Module.{Module}
use Rattle.cc_module.specs.Metadata.{metadata_bytes}
use Rattle.cc_module.specs.Storable.{SECTION, FIRST_BODY, file_size, file_aligned, IsStorable, IsInRange}
use Rattle.cc_tables.specs.declared.fault.TableFault.{TableFault}
use Rattle.cc_tables.specs.declared.fault.TableFault.TheVariants as tables
use Rattle.cc_tables.specs.Reading.{IsTables}
use Rattle.cc_image.specs.declared.sizes.Sizes.{Sizes}
use Rattle.cc_image.specs.declared.fault.ImageFault.{ImageFault}
use Rattle.cc_image.specs.declared.fault.ImageFault.TheVariants.{Short, BadField, Metadata, Code, Memory}
use Rattle.cc_image.specs.Headers.{HEADERS, header_layout, cli_layout, sizes_in}
use Rattle.cc_image.specs.Images.{bodies_bytes, sizes_of, IsImage}
use Rattle.cc_image.specs.ImageFaults.{first, headers_fault, FIRST_BODY_AT, metadata_at, bodies_in, bodies_end, gaps_fault, bodies_fault, ends_fault}
use Rattle.cc_image.specs.Reading.{contents_fault, tables_error, TablesFault, IsFirstFault}
use Rattle.cc_image.proofs.Fields.{all_wide, spells_length}
use Rattle.cc_image.proofs.Sections.{storable_size}
use Rattle.cc_image.proofs.Contents.{both_none, none_first}
use Rattle.cc_image.proofs.Counted.{few_methods}
use Rattle.cc_image.proofs.Whole.{AreHeaders, headers_sound, of_module_length, IsToldImage, image_told, with_bodies, with_bodies_metadata, image_sound}

memory_or : (f : ImageFault) → (f ≡ Memory) ⊎ (f ≡ Memory → ⊥)
memory_or (Short place) = inr (λ e. cc)
memory_or (BadField place) = inr (λ e. cc)
memory_or (Metadata fault) = inr (λ e. cc)
memory_or (Code row fault) = inr (λ e. cc)
memory_or Memory = inl refl

-- an error that is want of memory
pub memory_alone : {T : Type 0} (P : T → Type 0) (result : Result T ImageFault) (y : ImageFault) → result ≡ Err y → ((f : ImageFault) → result ≡ Err f → (f ≡ Memory → ⊥) → ⊥) → IfOk result P × IsOkUnless result Memory
memory_alone P (Ok value) y e h = absurd cc
memory_alone P (Err f) y e h = (tt, elim (memory_or f) [ inl is ↦ is | inr other ↦ absurd (h f refl other) ])

pub none_some : (fault : Option ImageFault) (f : ImageFault) → fault ≡ None → fault ≡ Some f → ⊥
none_some fault f e g = let h = sym e ∙ g in cc

-- ---- a fault of the metadata

pub record IsOfTables (inner : TableFault) (f : ImageFault) : Type 0 where
  pub other : inner ≡ tables.Memory → ⊥
  pub is : f ≡ Metadata inner

-- what the reader of metadata answers is want of memory in both, or in none
pub of_tables : (inner : TableFault) (f : ImageFault) → tables_error inner ≡ f → (f ≡ Memory → ⊥) → IsOfTables inner f
of_tables (tables.BadRoot place) f e n = record { other = λ g. cc; is = sym e }
of_tables (tables.BadStream place) f e n = record { other = λ g. cc; is = sym e }
of_tables (tables.BadTable table row) f e n = record { other = λ g. cc; is = sym e }
of_tables (tables.BadBlob place) f e n = record { other = λ g. cc; is = sym e }
of_tables (tables.NotSorted table) f e n = record { other = λ g. cc; is = sym e }
of_tables tables.Memory f e n = absurd (n (sym e))

-- the metadata are read where the headers tell them
pub first_of_tables : (bytes : List ℕ) (s : Sizes) (f : ImageFault) → s ≡ sizes_in bytes → headers_fault bytes ≡ None → TablesFault s bytes f → IsFirstFault bytes f
first_of_tables bytes s f is headers fault = inr (headers, inl (subst (λ (x : Sizes). TablesFault x bytes f) is fault))

-- ---- what holds behind headers without a fault

pub record IsRoomy (s : Sizes) (bytes : List ℕ) : Type 0 where
  pub least : FIRST_BODY_AT ≤ length bytes
  pub room : length bytes < 2 ^ 28
  pub whole : length bytes % 4 ≡ 0
  pub used : HEADERS + s.used ≤ length bytes

pub roomy : (s : Sizes) (bytes : List ℕ) → AreBytes bytes → s ≡ sizes_in bytes → headers_fault bytes ≡ None → IsRoomy s bytes
roomy s bytes each is fine =
    let head = headers_sound bytes each fine in
    let long = spells_length (header_layout (sizes_in bytes) ++ cli_layout (sizes_in bytes)) bytes (drop FIRST_BODY_AT bytes) head.spelled in
    let used : s.used ≡ (sizes_in bytes).used = ap (λ (x : Sizes). x.used) is in
    record {
      least = omega (arith, long, all_wide (sizes_in bytes));
      room = omega (arith, head.size, head.proper.section);
      whole = omega (arith, head.size, head.proper.rounded);
      used = omega (arith, head.size, head.proper.rounded, used);
    }

pub few_rows : (s : Sizes) (bytes : List ℕ) (m : Module) → length bytes < 2 ^ 28 → IsTables m (metadata_at s bytes) → length m.methods < 2 ^ 32
few_rows s bytes m room tables =
    omega (arith, few_methods m (metadata_at s bytes) tables.is, length-take s.metadata_size (drop (s.metadata_place - 0x1E00) bytes), length-drop (s.metadata_place - 0x1E00) bytes, room)

-- ---- an image that is there

-- without its bodies
abbrev pub bare : Module → Module
bare m = with_bodies m [] 0

module _ (m : Module) (bytes : List ℕ) (each : AreBytes bytes) (h : IsStorable m) (g : IsInRange m) (image : IsImage m bytes) where
  told_image : IsToldImage m bytes image.metadata
  told_image = image_told m bytes each h g image

  pub told_headers : headers_fault bytes ≡ None
  told_headers = told_image.headers

  bare_size : file_size (FIRST_BODY + length image.metadata - SECTION) < 2 ^ 28
  bare_size = omega (arith, storable_size m h, of_module_length m image.metadata image.is_metadata)

  bare_metadata : IsTables (bare m) image.metadata
  bare_metadata = record {
    is = with_bodies_metadata m [] 0 image.metadata image.is_metadata;
    columns = h.columns;
    range = g.columns;
    units = g.texts;
    sorted = record {
      interface_impls = h.sorted.interface_impls;
      constants = h.sorted.constants;
      method_semantics = h.sorted.method_semantics;
      method_impls = h.sorted.method_impls;
      generic_params = h.sorted.generic_params;
      generic_param_constraints = h.sorted.generic_param_constraints;
    };
    user_strings = h.user_strings;
    size = bare_size;
    no_bodies = refl;
    no_entry = refl;
  }

  pub bare_tables : (s : Sizes) → s ≡ sizes_in bytes → IsTables (bare m) (metadata_at s bytes)
  bare_tables s is = subst (λ (x : List ℕ). IsTables (bare m) x) (sym (ap (λ (x : Sizes). metadata_at x bytes) is ∙ told_image.metadata_is)) bare_metadata

  whole_contents : contents_fault (sizes_in bytes) m.methods bytes ≡ None
  whole_contents = none_first (bodies_fault 1 FIRST_BODY_AT m.methods bytes) _ told_image.bodies.fine told_image.ends

  pub told_contents : (s : Sizes) (n : Module) → s ≡ sizes_in bytes → n ≡ bare m → contents_fault s n.methods bytes ≡ None
  told_contents s n is same = ap (λ (x : Sizes). contents_fault x n.methods bytes) is ∙ ap (λ (x : Module). contents_fault (sizes_in bytes) x.methods bytes) same ∙ whole_contents

  told_entry : (sizes_in bytes).entry ≡ m.entry
  unfolding sizes_of
  told_entry = ap (λ (x : Sizes). x.entry) told_image.sizes

  pub told_module : (s : Sizes) (n : Module) (bodies : List Body) → s ≡ sizes_in bytes → n ≡ bare m → bodies ≡ bodies_in FIRST_BODY_AT n.methods bytes → with_bodies n bodies s.entry ≡ m
  told_module s n bodies is same e =
      let all : bodies ≡ m.bodies = e ∙ ap (λ (x : Module). bodies_in FIRST_BODY_AT x.methods bytes) same ∙ told_image.bodies.items in
      let entry : s.entry ≡ m.entry = ap (λ (x : Sizes). x.entry) is ∙ told_entry in
      λ i. with_bodies (same i) (all i) (entry i)

-- ---- an answer

pub found_image : (bytes : List ℕ) (s : Sizes) (m : Module) (bodies : List Body) → AreBytes bytes → s ≡ sizes_in bytes → headers_fault bytes ≡ None → IsTables m (metadata_at s bytes) → bodies ≡ bodies_in FIRST_BODY_AT m.methods bytes
    → contents_fault s m.methods bytes ≡ None → IsStorable (with_bodies m bodies s.entry) × IsImage (with_bodies m bodies s.entry) bytes
found_image bytes s m bodies each is headers tables e fine =
    let here : IsTables m (metadata_at (sizes_in bytes) bytes) = subst (λ (x : Sizes). IsTables m (metadata_at x bytes)) is tables in
    let none : contents_fault (sizes_in bytes) m.methods bytes ≡ None = ap (λ (x : Sizes). contents_fault x m.methods bytes) (sym is) ∙ fine in
    let both = both_none (bodies_fault 1 FIRST_BODY_AT m.methods bytes) (ends_fault (sizes_in bytes) (bodies_end FIRST_BODY_AT m.methods bytes) (gaps_fault FIRST_BODY_AT m.methods bytes) bytes) none in
    let sound = image_sound bytes m each headers here both.0 both.1 in
    let same : with_bodies m (bodies_in FIRST_BODY_AT m.methods bytes) (sizes_in bytes).entry ≡ with_bodies m bodies s.entry = λ i. with_bodies m (sym e i) (sym is i).entry in
    (subst (λ (x : Module). IsStorable x) same sound.storable, subst (λ (x : Module). IsImage x bytes) same sound.image)
