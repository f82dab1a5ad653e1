-- How many methods metadata can have: each has bytes of its own.
use Rattle.std.proofs.Common.{◌≡◌, ℕ, suc, ◌+◌, ◌<◌, ◌≤◌, List, [], ◌∷◌, ◌++◌, length, refl, sym, ap, ◌∙◌, arith}
use Rattle.std.specs.List.{flat_map}
use Rattle.std.proofs.lemmas.List.{length-append}
use Rattle.std.proofs.lemmas.Grind.{flat_map-append}
use Rattle.cc_layout.specs.Layout.{bytes_of}
use Rattle.cc_module.specs.declared.rows.MethodDefRow.{MethodDefRow}
use Rattle.cc_module.specs.declared.module.Module.{Module}
use Rattle.cc_module.specs.Heaps.{padded}
use Rattle.cc_module.specs.Rows as of
use Rattle.cc_module.specs.Rows.{Cell, all_cells, early_cells, late_cells}
use Rattle.cc_module.specs.Metadata.{Context, context, sizes_of, cell_bytes, tables_header, tables_stream, root_layout, joined_streams, strings_stream, user_strings_stream, blob_stream, metadata_with, IsMetadata}
use Rattle.cc_image.proofs.Sections.{length-padded}

abbrev bytes_of_cells : Context → List Cell → ℕ
bytes_of_cells c cells = length (flat_map (cell_bytes c) cells)

both_sides : (c : Context) (a b : List Cell) → bytes_of_cells c (a ++ b) ≡ bytes_of_cells c a + bytes_of_cells c b
both_sides c a b = ap length (flat_map-append (cell_bytes c) a b) ∙ length-append (flat_map (cell_bytes c) a) (flat_map (cell_bytes c) b)

right : (c : Context) (a b : List Cell) (n : ℕ) → n ≤ bytes_of_cells c b → n ≤ bytes_of_cells c (a ++ b)
right c a b n h = omega (arith, both_sides c a b, h)

left : (c : Context) (a b : List Cell) (n : ℕ) → n ≤ bytes_of_cells c a → n ≤ bytes_of_cells c (a ++ b)
left c a b n h = omega (arith, both_sides c a b, h)

method_bytes : (c : Context) (method : MethodDefRow) → 1 ≤ bytes_of_cells c (of.method_def_cells method)
method_bytes c method = omega arith

methods_bytes : (c : Context) (methods : List MethodDefRow) → length methods ≤ bytes_of_cells c (flat_map of.method_def_cells methods)
methods_bytes c [] = omega arith
methods_bytes c (method ∷ methods) =
    let one = method_bytes c method in
    let ih = methods_bytes c methods in
    omega (arith, both_sides c (of.method_def_cells method) (flat_map of.method_def_cells methods), one, ih)

cells_bytes : (c : Context) (m : Module) → length m.methods ≤ bytes_of_cells c (all_cells m)
cells_bytes c m =
    left c (early_cells m) (late_cells m) _
    (right c (flat_map of.module_cells m.modules) _ _
    (right c (flat_map of.type_ref_cells m.type_refs) _ _
    (right c (flat_map of.type_def_cells m.type_defs) _ _
    (right c (flat_map of.field_cells m.fields) _ _
    (left c (flat_map of.method_def_cells m.methods) _ _ (methods_bytes c m.methods))))))

after : (a b : List ℕ) (n : ℕ) → n ≤ length b → n ≤ length (a ++ b)
after a b n h = omega (arith, length-append a b, h)

before : (a b : List ℕ) (n : ℕ) → n ≤ length a → n ≤ length (a ++ b)
before a b n h = omega (arith, length-append a b, h)

pub few_methods : (m : Module) (metadata : List ℕ) → IsMetadata m metadata → length m.methods ≤ length metadata
unfolding metadata_with
few_methods m metadata (unique, long, is) =
    let c = context m in
    let rows = bytes_of (tables_header (sizes_of c)) ++ flat_map (cell_bytes c) (all_cells m) in
    let some : length m.methods ≤ length rows = after (bytes_of (tables_header (sizes_of c))) (flat_map (cell_bytes c) (all_cells m)) (length m.methods) (cells_bytes c m) in
    let stream : length m.methods ≤ length (padded rows) = omega (arith, length-padded rows, some) in
    let names = strings_stream c.names in
    let texts = user_strings_stream m.texts in
    let blobs = blob_stream c.blobs in
    let others = names ++ (texts ++ (unique ++ blobs)) in
    let whole : length m.methods ≤ length (metadata_with unique m) =
    after (bytes_of (root_layout (padded rows) names texts blobs)) (padded rows ++ others) (length m.methods) (before (padded rows) others (length m.methods) stream) in
    omega (arith, ap length is, whole)
