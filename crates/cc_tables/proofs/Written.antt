-- Streams written part by part, and the sizes of a module that a file can hold.
use Rattle.std.proofs.Common.{◌≡◌, ◌==◌, if◌then◌else◌, Bool, true, false, ℕ, ◌+◌, ◌-◌, ◌*◌, ◌%◌, ◌<◌, ◌≤◌, ◌^◌, List, [], ◌∷◌, ◌++◌, length, replicate, refl, sym, ap, ◌∙◌, append_assoc, arith, map}
use Rattle.std.specs.List.{flat_map, AllByRecursion}
use Rattle.std.proofs.lemmas.List.{length-append}
use Rattle.std.proofs.lemmas.List.Concat.{flat_map-cons}
use Rattle.cc_cil.specs.declared.body.Body.{Body}
use Rattle.cc_cil.specs.Bodies.{padding, body_bytes}
use Rattle.cc_layout.specs.declared.field.Field.{Field}
use Rattle.cc_layout.specs.Layout.{number, run, bytes_of, HasWidth}
use Rattle.cc_layout.specs.Numbers.{AreBytes, little_endian}
use Rattle.cc_layout.specs.Compressed.{compressed}
use Rattle.cc_module.specs.declared.table.Table.{Table}
use Rattle.cc_module.specs.declared.module.Module.{Module}
use Rattle.cc_module.specs.Heaps.{padded, heap_bytes, special_mark, text_entry}
use Rattle.cc_module.specs.Rows as of
use Rattle.cc_module.specs.Rows.{Cell, u1, u2, u4, name, guid, signature, blob, row, coded, all_cells, early_cells, late_cells, row_count}
use Rattle.cc_module.specs.Metadata.{Sizes, Context, context, sizes_of, names_of, blobs_of, cell_bytes, tables, heap_sizes, valid, SORTED, count_field, tables_header, tables_stream, strings_stream, blob_stream, user_strings_stream, stream_header, root_layout, joined_streams, metadata_with, metadata_bytes, GUID_SIZE}
use Rattle.cc_module.specs.Storable.{SECTION, FIRST_BODY, aligned, bodies_end, metadata_place, file_aligned, image_size, FitsCell, IsStorable}
use Rattle.cc_tables.specs.declared.numbering.Slot.{Slot}
use Rattle.cc_tables.specs.declared.numbering.Numbering.{Numbering}
use Rattle.cc_tables.specs.declared.width.StreamSizes.{StreamSizes}
use Rattle.cc_tables.proofs.Numbered.{nothing, all_names, all_blobs, all_slots}
use Rattle.cc_tables.specs.declared.heap.HeapKind.{HeapKind}
use Rattle.cc_tables.specs.declared.heap.HeapKind.TheVariants.{Names, Blobs}
use Rattle.cc_tables.specs.declared.heap.Heap.{Heap}
use Rattle.cc_tables.specs.Numbering.{entry_of, heap_texts, IsHeap, Numbered, with_cells, numbered, Meets, slot_of, slot_bytes, sizes_by, header_of, slots_stream, IsShort, AreShort, IsShortText}

-- the bytes of a run are the run
pub run_bytes : (bytes : List ℕ) → AreBytes bytes → bytes_of (run bytes) ≡ bytes
run_bytes [] h = refl
run_bytes (byte ∷ bytes) h =
    let same : byte % 256 ≡ byte = omega (arith, h.0) in
    rw (same) (ap (λ (x : List ℕ). byte ∷ x) (run_bytes bytes h.1))

-- ---- short blobs and texts

short_cell : (cell : Cell) (m : Module) → FitsCell (row_count m) cell → IsShort cell
short_cell (u1 value) m h = tt
short_cell (u2 value) m h = tt
short_cell (u4 value) m h = tt
short_cell (name text) m h = tt
short_cell (guid index) m h = tt
short_cell (signature text) m h = h.1
short_cell (blob text) m h = h
short_cell (row table index) m h = tt
short_cell (coded kind index) m h = tt

short_cells : (cells : List Cell) (m : Module) → AllByRecursion (FitsCell (row_count m)) cells → AllByRecursion IsShort cells
short_cells [] m h = tt
short_cells (cell ∷ cells) m h = (short_cell cell m h.0, short_cells cells m h.1)

pub parts : {A : Type 0} (P : A → Type 0) (a b : List A) → AllByRecursion P (a ++ b) → AllByRecursion P a × AllByRecursion P b
parts P [] b h = (tt, h)
parts P (x ∷ a) b h = let p = parts P a b h.1 in ((h.0, p.0), p.1)

abbrev pub from_constant : Module → List Cell
from_constant m = flat_map of.constant_cells m.constants

abbrev pub from_member_ref : Module → List Cell
from_member_ref m = flat_map of.member_ref_cells m.member_refs ++ from_constant m

abbrev pub from_interface_impl : Module → List Cell
from_interface_impl m = flat_map of.interface_impl_cells m.interface_impls ++ from_member_ref m

abbrev pub from_param : Module → List Cell
from_param m = flat_map of.param_cells m.params ++ from_interface_impl m

abbrev pub from_method_def : Module → List Cell
from_method_def m = flat_map of.method_def_cells m.methods ++ from_param m

abbrev pub from_field : Module → List Cell
from_field m = flat_map of.field_cells m.fields ++ from_method_def m

abbrev pub from_type_def : Module → List Cell
from_type_def m = flat_map of.type_def_cells m.type_defs ++ from_field m

abbrev pub from_type_ref : Module → List Cell
from_type_ref m = flat_map of.type_ref_cells m.type_refs ++ from_type_def m

abbrev pub from_generic_param_constraint : Module → List Cell
from_generic_param_constraint m = flat_map of.generic_param_constraint_cells m.generic_param_constraints

abbrev pub from_method_spec : Module → List Cell
from_method_spec m = flat_map of.method_spec_cells m.method_specs ++ from_generic_param_constraint m

abbrev pub from_generic_param : Module → List Cell
from_generic_param m = flat_map of.generic_param_cells m.generic_params ++ from_method_spec m

abbrev pub from_assembly_ref : Module → List Cell
from_assembly_ref m = flat_map of.assembly_ref_cells m.assembly_refs ++ from_generic_param m

abbrev pub from_assembly : Module → List Cell
from_assembly m = flat_map of.assembly_cells m.assemblies ++ from_assembly_ref m

abbrev pub from_type_spec : Module → List Cell
from_type_spec m = flat_map of.type_spec_cells m.type_specs ++ from_assembly m

abbrev pub from_method_impl : Module → List Cell
from_method_impl m = flat_map of.method_impl_cells m.method_impls ++ from_type_spec m

abbrev pub from_method_semantics : Module → List Cell
from_method_semantics m = flat_map of.method_semantics_cells m.method_semantics ++ from_method_impl m

abbrev pub from_property : Module → List Cell
from_property m = flat_map of.property_cells m.properties ++ from_method_semantics m

abbrev pub from_property_map : Module → List Cell
from_property_map m = flat_map of.property_map_cells m.property_maps ++ from_property m

-- the columns of each table
pub all_short : (m : Module) → AllByRecursion IsShort (all_cells m) → AreShort m
all_short m h =
    let halves = parts IsShort (early_cells m) (late_cells m) h in
    let after_module = parts IsShort (flat_map of.module_cells m.modules) (from_type_ref m) halves.0 in
    let after_type_ref = parts IsShort (flat_map of.type_ref_cells m.type_refs) (from_type_def m) after_module.1 in
    let after_type_def = parts IsShort (flat_map of.type_def_cells m.type_defs) (from_field m) after_type_ref.1 in
    let after_field = parts IsShort (flat_map of.field_cells m.fields) (from_method_def m) after_type_def.1 in
    let after_method_def = parts IsShort (flat_map of.method_def_cells m.methods) (from_param m) after_field.1 in
    let after_param = parts IsShort (flat_map of.param_cells m.params) (from_interface_impl m) after_method_def.1 in
    let after_interface_impl = parts IsShort (flat_map of.interface_impl_cells m.interface_impls) (from_member_ref m) after_param.1 in
    let after_member_ref = parts IsShort (flat_map of.member_ref_cells m.member_refs) (from_constant m) after_interface_impl.1 in
    let after_stand_alone_sig = parts IsShort (flat_map of.stand_alone_sig_cells m.stand_alone_sigs) (from_property_map m) halves.1 in
    let after_property_map = parts IsShort (flat_map of.property_map_cells m.property_maps) (from_property m) after_stand_alone_sig.1 in
    let after_property = parts IsShort (flat_map of.property_cells m.properties) (from_method_semantics m) after_property_map.1 in
    let after_method_semantics = parts IsShort (flat_map of.method_semantics_cells m.method_semantics) (from_method_impl m) after_property.1 in
    let after_method_impl = parts IsShort (flat_map of.method_impl_cells m.method_impls) (from_type_spec m) after_method_semantics.1 in
    let after_type_spec = parts IsShort (flat_map of.type_spec_cells m.type_specs) (from_assembly m) after_method_impl.1 in
    let after_assembly = parts IsShort (flat_map of.assembly_cells m.assemblies) (from_assembly_ref m) after_type_spec.1 in
    let after_assembly_ref = parts IsShort (flat_map of.assembly_ref_cells m.assembly_refs) (from_generic_param m) after_assembly.1 in
    let after_generic_param = parts IsShort (flat_map of.generic_param_cells m.generic_params) (from_method_spec m) after_assembly_ref.1 in
    let after_method_spec = parts IsShort (flat_map of.method_spec_cells m.method_specs) (from_generic_param_constraint m) after_generic_param.1 in
    record {
      modules = after_module.0;
      type_refs = after_type_ref.0;
      type_defs = after_type_def.0;
      fields = after_field.0;
      methods = after_method_def.0;
      params = after_param.0;
      interface_impls = after_interface_impl.0;
      member_refs = after_member_ref.0;
      constants = after_member_ref.1;
      stand_alone_sigs = after_stand_alone_sig.0;
      property_maps = after_property_map.0;
      properties = after_property.0;
      method_semantics = after_method_semantics.0;
      method_impls = after_method_impl.0;
      type_specs = after_type_spec.0;
      assemblies = after_assembly.0;
      assembly_refs = after_assembly_ref.0;
      generic_params = after_generic_param.0;
      method_specs = after_method_spec.0;
      generic_param_constraints = after_method_spec.1;
    }

pub storable_short : (m : Module) → IsStorable m → AreShort m
storable_short m h = all_short m (short_cells (all_cells m) m h.columns)

-- ---- sizes

pub units_long : (units : List ℕ) → length (flat_map (little_endian 2) units) ≡ 2 * length units
units_long [] = refl
units_long (unit ∷ units) = omega (arith, ap length (flat_map-cons (little_endian 2) unit units), length-append (little_endian 2 unit) (flat_map (little_endian 2) units), units_long units)

entry_long : (units : List ℕ) → 2 * length units < length (text_entry units)
entry_long units =
    let marked : List ℕ = flat_map (little_endian 2) units ++ special_mark units ∷ [] in
    omega (arith, length-append (compressed (2 * length units + 1)) marked, length-append (flat_map (little_endian 2) units) (special_mark units ∷ []), units_long units)

-- the text of a user string is shorter than the stream
pub short_texts : (texts : List (List ℕ)) (size : ℕ) → length (flat_map text_entry texts) < size → size ≤ 2 ^ 29 → AllByRecursion IsShortText texts
short_texts [] size h k = tt
short_texts (text ∷ texts) size h k =
    let whole = ap length (flat_map-cons text_entry text texts) ∙ length-append (text_entry text) (flat_map text_entry texts) in
    let own = entry_long text in
    (omega (arith, h, k, whole, own), short_texts texts size (omega (arith, h, whole)) k)

-- zeros are only added
pub padded_long : (bytes : List ℕ) → length bytes ≤ length (padded bytes)
padded_long bytes = omega (arith, length-append bytes (replicate (padding (length bytes)) 0))

pub storable_texts : (m : Module) → IsStorable m → AllByRecursion IsShortText m.texts
storable_texts m h =
    let bytes : List ℕ = 0 ∷ flat_map text_entry m.texts in
    short_texts m.texts (2 ^ 24) (omega (arith, h.user_strings, padded_long bytes)) (omega arith)

bodies_after : (at : ℕ) (bodies : List Body) → at ≤ bodies_end at bodies
bodies_after at [] = omega arith
bodies_after at (b ∷ bodies) = omega (arith, bodies_after (aligned (at + length (body_bytes b))) bodies)

pub aligned_after : (size : ℕ) → size ≤ file_aligned size
aligned_after size = omega arith

pub storable_size : (m : Module) → IsStorable m → length (metadata_bytes m) < 2 ^ 28
unfolding image_size
storable_size m h = omega (arith, h.size, bodies_after FIRST_BODY m.bodies, aligned_after (metadata_place m + length (metadata_bytes m) - SECTION))

pub streams_short : (rows strings user_strings unique blobs : List ℕ) → length rows + length strings + length user_strings + length blobs ≤ length (joined_streams rows strings user_strings unique blobs)
streams_short rows strings user_strings unique blobs =
    let last : List ℕ = unique ++ blobs in
    let third : List ℕ = user_strings ++ last in
    let second : List ℕ = strings ++ third in
    let head : List ℕ = bytes_of (root_layout rows strings user_strings blobs) in
    omega (arith, length-append head (rows ++ second), length-append rows second, length-append strings third, length-append user_strings last, length-append unique blobs)

pub join_fits : (m : Module) (rows strings user_strings blobs : List ℕ) → IsStorable m → rows ≡ tables_stream (context m) (all_cells m) → strings ≡ strings_stream (names_of (all_cells m)) → user_strings ≡ user_strings_stream m.texts
    → blobs ≡ blob_stream (blobs_of (all_cells m)) → length rows + length strings + length user_strings + length blobs < 2 ^ 32
unfolding metadata_with
join_fits m rows strings user_strings blobs h a b c d =
    let zeros : List ℕ = replicate GUID_SIZE 0 in
    let short = storable_size m h in
    let all = streams_short (tables_stream (context m) (all_cells m)) (strings_stream (names_of (all_cells m))) (user_strings_stream m.texts) zeros (blob_stream (blobs_of (all_cells m))) in
    rw (a, b, c, d) (omega (arith, short, all))

-- ---- the rows and the whole

written_slots : (c : Context) (cells : List Cell) → flat_map (slot_bytes (sizes_of c)) (map (slot_of c.names c.blobs) cells) ≡ flat_map (cell_bytes c) cells
written_slots c [] = refl
written_slots c (cell ∷ cells) =
    flat_map-cons (slot_bytes (sizes_of c)) (slot_of c.names c.blobs cell) (map (slot_of c.names c.blobs) cells) ∙ ap (λ (x : List ℕ). cell_bytes c cell ++ x) (written_slots c cells) ∙ sym (flat_map-cons (cell_bytes c) cell cells)

pub rows_written : (m : Module) (s : Sizes) (slots : List Slot) → s ≡ sizes_of (context m) → slots ≡ map (slot_of (names_of (all_cells m)) (blobs_of (all_cells m))) (all_cells m) → slots_stream s slots ≡ tables_stream (context m) (all_cells m)
unfolding header_of
rows_written m s slots e f = rw (e, f) (ap (λ (x : List ℕ). padded (bytes_of (tables_header (sizes_of (context m))) ++ x)) (written_slots (context m) (all_cells m)))

pub whole_written : (m : Module) (rows strings user_strings blobs result : List ℕ) → rows ≡ tables_stream (context m) (all_cells m) → strings ≡ strings_stream (names_of (all_cells m)) → user_strings ≡ user_strings_stream m.texts
    → blobs ≡ blob_stream (blobs_of (all_cells m)) → result ≡ joined_streams rows strings user_strings (replicate GUID_SIZE 0) blobs → result ≡ metadata_bytes m
unfolding metadata_with
whole_written m rows strings user_strings blobs result a b c d e = rw (e, a, b, c, d) refl

pub sizes_known : (m : Module) (strings blobs : ℕ) → strings ≡ length (strings_stream (names_of (all_cells m))) → blobs ≡ length (blob_stream (blobs_of (all_cells m)))
    → sizes_by (row_count m) (record { strings = strings; blobs = blobs }) ≡ sizes_of (context m)
sizes_known m strings blobs a b = rw (a, b) refl

-- a heap as a stream
pub names_written : (heap : Heap) (texts : List (List ℕ)) (stream : List ℕ) → IsHeap Names heap → heap_texts heap ≡ texts → stream ≡ padded (heap_bytes (entry_of heap.kind) (heap_texts heap)) → stream ≡ strings_stream texts
names_written heap texts stream h t e = e ∙ ap (λ (x : List (List ℕ)). padded (heap_bytes (entry_of heap.kind) x)) t ∙ ap (λ (k : HeapKind). padded (heap_bytes (entry_of k) texts)) h.is

pub blobs_written : (heap : Heap) (texts : List (List ℕ)) (stream : List ℕ) → IsHeap Blobs heap → heap_texts heap ≡ texts → stream ≡ padded (heap_bytes (entry_of heap.kind) (heap_texts heap)) → stream ≡ blob_stream texts
blobs_written heap texts stream h t e = e ∙ ap (λ (x : List (List ℕ)). padded (heap_bytes (entry_of heap.kind) x)) t ∙ ap (λ (k : HeapKind). padded (heap_bytes (entry_of k) texts)) h.is

-- ---- the header of the stream #~

-- the fields before the numbers of rows
unfoldable pub front : Sizes → List Field
front s = number 4 0 ∷ number 1 2 ∷ number 1 0 ∷ number 1 (heap_sizes s) ∷ number 1 1 ∷ number 8 (valid s.rows) ∷ number 8 SORTED ∷ []

pub header_pushed : (s : Sizes) (first fields : List Field) → first ≡ front s → fields ≡ first ++ flat_map (count_field s.rows) tables → fields ≡ header_of s
unfolding header_of front
header_pushed s first fields e f = f ∙ ap (λ (x : List Field). x ++ flat_map (count_field s.rows) tables) e

count_width : (rows : Table → ℕ) (table : Table) → AllByRecursion HasWidth (count_field rows table)
count_width rows table = by (rows table == 0)
  where
    by : (b : Bool) → AllByRecursion HasWidth (if b then [] else number 4 (rows table) ∷ [])
    by true = tt
    by false = ((omega arith, omega arith), tt)

widths_both : (a b : List Field) → AllByRecursion HasWidth a → AllByRecursion HasWidth b → AllByRecursion HasWidth (a ++ b)
widths_both [] b h k = k
widths_both (f ∷ a) b h k = (h.0, widths_both a b h.1 k)

count_widths : (rows : Table → ℕ) (all : List Table) → AllByRecursion HasWidth (flat_map (count_field rows) all)
count_widths rows [] = tt
count_widths rows (table ∷ all) = rw (flat_map-cons (count_field rows) table all) (widths_both (count_field rows table) (flat_map (count_field rows) all) (count_width rows table) (count_widths rows all))

front_widths : (s : Sizes) → AllByRecursion HasWidth (front s)
unfolding front
front_widths s =
    ((omega arith, omega arith), ((omega arith, omega arith), ((omega arith, omega arith), ((omega arith, omega arith), ((omega arith, omega arith), ((omega arith, omega arith), ((omega arith, omega arith), tt)))))))

pub table_header_widths : (s : Sizes) → AllByRecursion HasWidth (header_of s)
unfolding header_of front
table_header_widths s = widths_both (front s) (flat_map (count_field s.rows) tables) (front_widths s) (count_widths s.rows tables)

-- ---- the headers of streams

pub header_written : (offset size : ℕ) (title old first second new : List ℕ) → AreBytes title → first ≡ old ++ little_endian 4 offset → second ≡ first ++ little_endian 4 size → new ≡ second ++ title
    → new ≡ old ++ bytes_of (stream_header offset size title)
header_written offset size title old first second new h e f g =
    g ∙ ap (λ (y : List ℕ). y ++ title) f ∙ append_assoc first (little_endian 4 size) title ∙ ap (λ (y : List ℕ). y ++ (little_endian 4 size ++ title)) e
    ∙ append_assoc old (little_endian 4 offset) (little_endian 4 size ++ title) ∙ ap (λ (y : List ℕ). old ++ (little_endian 4 offset ++ (little_endian 4 size ++ y))) (sym (run_bytes title h))

-- ---- the whole

-- what the writer has before it joins the streams
pub record IsPrepared (m : Module) (old new : Numbering) (rows strings user_strings blobs : List ℕ) (s : StreamSizes) (slots : List Slot) : Type 0 where
  pub empty : numbered old ≡ nothing
  pub met : Meets old new (all_cells m)
  pub strings_is : strings ≡ padded (heap_bytes (entry_of new.names.kind) (heap_texts new.names))
  pub blobs_is : blobs ≡ padded (heap_bytes (entry_of new.blobs.kind) (heap_texts new.blobs))
  pub user_strings_is : user_strings ≡ user_strings_stream m.texts
  pub strings_size : s.strings ≡ length strings
  pub blobs_size : s.blobs ≡ length blobs
  pub slots_are : slots ≡ new.slots.items
  pub rows_are : rows ≡ slots_stream (sizes_by (row_count m) s) slots

module _ (m : Module) (old new : Numbering) (rows strings user_strings blobs : List ℕ) (s : StreamSizes) (slots : List Slot) (p : IsPrepared m old new rows strings user_strings blobs s slots) where
  after : numbered new ≡ with_cells nothing (all_cells m)
  after = p.met.met ∙ ap (λ (x : Numbered). with_cells x (all_cells m)) p.empty

  names_known : heap_texts new.names ≡ names_of (all_cells m)
  unfolding numbered
  names_known = ap (λ (x : Numbered). x.names) after ∙ all_names (all_cells m)

  blobs_known : heap_texts new.blobs ≡ blobs_of (all_cells m)
  unfolding numbered
  blobs_known = ap (λ (x : Numbered). x.blobs) after ∙ all_blobs (all_cells m)

  slots_known : slots ≡ map (slot_of (names_of (all_cells m)) (blobs_of (all_cells m))) (all_cells m)
  unfolding numbered
  slots_known = p.slots_are ∙ ap (λ (x : Numbered). x.slots) after ∙ all_slots (all_cells m)

  strings_known : strings ≡ strings_stream (names_of (all_cells m))
  strings_known = names_written new.names (names_of (all_cells m)) strings p.met.whole.names names_known p.strings_is

  blob_known : blobs ≡ blob_stream (blobs_of (all_cells m))
  blob_known = blobs_written new.blobs (blobs_of (all_cells m)) blobs p.met.whole.blobs blobs_known p.blobs_is

  rows_known : rows ≡ tables_stream (context m) (all_cells m)
  rows_known =
      let sizes = sizes_known m s.strings s.blobs (p.strings_size ∙ ap length strings_known) (p.blobs_size ∙ ap length blob_known) in
      p.rows_are ∙ rows_written m (sizes_by (row_count m) s) slots sizes slots_known

  pub prepared_fits : IsStorable m → length rows + length strings + length user_strings + length blobs < 2 ^ 32
  prepared_fits h = join_fits m rows strings user_strings blobs h rows_known strings_known p.user_strings_is blob_known

  pub prepared_whole : (result : List ℕ) → result ≡ joined_streams rows strings user_strings (replicate GUID_SIZE 0) blobs → result ≡ metadata_bytes m
  prepared_whole result e = whole_written m rows strings user_strings blobs result rows_known strings_known p.user_strings_is blob_known e
