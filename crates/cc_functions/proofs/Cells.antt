-- The columns of the module of a program of functions, and its size.
use Rattle.std.proofs.Common.{◌≡◌, ℕ, ◌+◌, ◌-◌, ◌*◌, ◌/◌, ◌%◌, ◌^◌, ◌<◌, ◌≤◌, Option, Some, None, List, [], ◌∷◌, ◌++◌, length, refl, ap, ◌∙◌, append_assoc, arith, length-append}
use borrow.Author.Tests.{ltb-true}
use Rattle.std.specs.List.{flat_map}
use Rattle.cc_cil.specs.Bodies.{body_bytes}
use Rattle.cc_module.specs.declared.signature.Signature.{Signature}
use Rattle.cc_module.specs.declared.rows.MethodDefRow.{MethodDefRow}
use Rattle.cc_module.specs.declared.rows.StandAloneSigRow.{StandAloneSigRow}
use Rattle.cc_module.specs.Rows.{Cell, all_cells, module_cells, type_ref_cells, type_def_cells, method_def_cells, member_ref_cells, stand_alone_sig_cells, assembly_cells, assembly_ref_cells}
use Rattle.cc_module.specs.Signatures.{signature_bytes}
use Rattle.cc_module.specs.Metadata.{metadata_bytes}
use Rattle.cc_module.specs.Storable.{FIRST_BODY, SECTION, aligned, bodies_end, body_places, file_size, image_size}
use Rattle.cc_emit.specs.Program.{module_row, console_row, globals_row, assembly_row, library_row}
use Rattle.cc_functions.specs.declared.function.Function.{Function}
use Rattle.cc_functions.specs.Fits.{locals_size, size_of, total_size}
use Rattle.cc_functions.specs.Program.{bodies, console_members, local_row, local_rows, method_row, method_rows, module_of, rows_at, start}
use Rattle.cc_functions.specs.Program as spec
use Rattle.cc_functions.proofs.Bodies.{next_low}
use Rattle.cc_functions.proofs.MetadataSize.{weights, weights-append, metadata_low}

-- ---- the columns of rows that each program has, around those of its methods

abbrev pub first : List Cell
first = module_cells module_row ++ (type_ref_cells console_row ++ type_def_cells globals_row)

abbrev pub second : List Cell
second = flat_map member_ref_cells console_members

abbrev pub third : List Cell
third = assembly_cells assembly_row ++ assembly_ref_cells library_row

abbrev pub of_methods : List MethodDefRow → List Cell
of_methods rows = flat_map method_def_cells rows

abbrev pub of_locals : List StandAloneSigRow → List Cell
of_locals rows = flat_map stand_alone_sig_cells rows

abbrev pub cells_of : List Function → List Cell
cells_of methods = first ++ (of_methods (method_rows methods) ++ (second ++ (of_locals (local_rows methods) ++ third)))

pub cells_are : (methods : List Function) (entry : ℕ) → all_cells (module_of methods entry) ≡ cells_of methods
cells_are methods entry = ap (λ (x : List Cell). first ++ x) (append_assoc (of_methods (method_rows methods)) second (of_locals (local_rows methods) ++ third))

-- ---- their sizes

first_low : weights first < 256
first_low = ltb-true (weights first) 256 refl

second_low : weights second < 1024
second_low = ltb-true (weights second) 1024 refl

third_low : weights third < 256
third_low = ltb-true (weights third) 256 refl

locals_low : (o : Option Signature) (rows : List StandAloneSigRow) → weights (of_locals (local_row o ++ rows)) ≤ 8 + locals_size o + weights (of_locals rows)
locals_low None rows = omega arith
locals_low (Some s) rows = omega arith

-- the columns, the blobs and names, and the bodies of methods
pub all_low : (methods : List Function) (places : List ℕ) (at row : ℕ) → weights (of_methods (rows_at places methods)) + weights (of_locals (local_rows methods)) + bodies_end at (bodies row methods) ≤ at + total_size methods
all_low [] places at row = omega arith
all_low (f ∷ methods) [] at row =
    let next = aligned (at + length (body_bytes (spec.body row f))) in
    let ih = all_low methods [] next (length (local_row f.locals) + row) in
    let near = next_low at row f in
    let own = locals_low f.locals (local_rows methods) in
    omega (arith, ih, near, own)
all_low (f ∷ methods) (place ∷ places) at row =
    let next = aligned (at + length (body_bytes (spec.body row f))) in
    let ih = all_low methods places next (length (local_row f.locals) + row) in
    let near = next_low at row f in
    let own = locals_low f.locals (local_rows methods) in
    let here : weights (of_methods (method_row place f ∷ rows_at places methods)) ≡ 29 + length f.name + length (signature_bytes f.signature) + weights (of_methods (rows_at places methods)) = omega arith in
    omega (arith, ih, near, own, here)

cells_low : (methods : List Function) → weights (cells_of methods) + bodies_end FIRST_BODY (bodies 1 methods) ≤ 1536 + FIRST_BODY + total_size methods
cells_low methods =
    let a = of_methods (method_rows methods) in
    let b = of_locals (local_rows methods) in
    let one = weights-append first (a ++ (second ++ (b ++ third))) in
    let two = weights-append a (second ++ (b ++ third)) in
    let three = weights-append second (b ++ third) in
    let four = weights-append b third in
    let rows = all_low methods (body_places FIRST_BODY (bodies 1 methods)) FIRST_BODY 1 in
    omega (arith, one, two, three, four, rows, first_low, second_low, third_low)

file_low : (used : ℕ) → file_size used ≤ 1023 + used
file_low used = omega arith

pub image_low : (methods : List Function) (entry : ℕ) → image_size (module_of methods entry) ≤ 3000 + total_size methods
unfolding image_size
image_low methods entry =
    let m = module_of methods entry in
    let is : image_size m ≡ file_size (bodies_end FIRST_BODY (bodies 1 methods) + length (metadata_bytes m) - SECTION) = refl in
    let most = file_low (bodies_end FIRST_BODY (bodies 1 methods) + length (metadata_bytes m) - SECTION) in
    let metadata : length (metadata_bytes m) ≤ 260 + weights (all_cells m) = metadata_low m in
    let cells : weights (all_cells m) ≡ weights (cells_of methods) = ap weights (cells_are methods entry) in
    let low = cells_low methods in
    omega (arith, is, most, metadata, cells, low)

-- ---- all methods

pub start_size : (main : ℕ) → size_of (start main) ≡ 82
start_size main = refl

pub total-append : (a b : List Function) → total_size (a ++ b) ≡ total_size a + total_size b
total-append [] b = omega arith
total-append (f ∷ a) b = let rest = total-append a b in omega arith

pub total_all : (functions : List Function) (main : ℕ) → total_size (spec.methods_of functions main) ≡ total_size functions + 82
total_all functions main =
    let both = total-append functions (start main ∷ []) in
    let last = start_size main in
    omega (arith, both, last)

-- where the bodies end
pub end_low : (methods : List Function) → bodies_end FIRST_BODY (bodies 1 methods) ≤ FIRST_BODY + total_size methods
end_low methods = let all = all_low methods [] FIRST_BODY 1 in omega (arith, all)
