-- How large the metadata of a module is at most (ECMA-335, II.24).
--   weights cells     at most so many bytes of it are these columns and what they hold
--   metadata_low m    it has at most 256 bytes more, and the user strings
use Rattle.std.proofs.Common.{◌≡◌, ℕ, zero, suc, ◌+◌, ◌-◌, ◌*◌, ◌/◌, ◌%◌, ◌^◌, ◌<◌, ◌≤◌, ◌==◌, Bool, true, false, List, [], ◌∷◌, ◌++◌, length, refl, ap, sym, ◌∙◌, arith, length-append, cond}
use Rattle.std.specs.Prelude.{not, filter, nat_lt, if◌then◌else◌}
use Rattle.std.specs.List.{flat_map, list_all}
use Rattle.std.specs.Str.{bytes_eq}
use Rattle.std.proofs.Math.ListN.{replicate, length-replicate}
use Rattle.cc_layout.specs.declared.field.Field.{Field}
use Rattle.cc_layout.specs.Layout.{number, bytes_of, width_of}
use Rattle.cc_layout.specs.Compressed.{compressed}
use Rattle.cc_layout.proofs.Laws.{length-bytes_of}
use Rattle.cc_layout.proofs.Numbers.{length-little_endian}
use Rattle.cc_cil.specs.Bodies.{padding}
use Rattle.cc_module.specs.declared.table.Table.{Table}
use Rattle.cc_module.specs.declared.table.Column.{Column}
use Rattle.cc_module.specs.declared.table.Column.TheVariants as col
use Rattle.cc_module.specs.declared.module.Module.{Module}
use Rattle.cc_module.specs.Rows.{Cell, u1, u2, u4, name, guid, signature, blob, row, coded, all_cells}
use Rattle.cc_module.specs.Heaps.{padded, filled, distinct, name_entry, blob_entry, heap_bytes}
use Rattle.cc_module.specs.Metadata.{Sizes, Context, tables, tables_of, tag_bits, heap_width, row_width, coded_width, column_width, column_of, cell_value, sizes_of, cell_bytes, context, name_of, blob_of, names_of, blobs_of, strings_stream, user_strings_stream, blob_stream, GUID_SIZE, count_field, tables_header, tables_stream, root_layout, metadata_with, metadata_bytes}

-- ---- columns

two_or_four : (short : Bool) → (if short then 2 else 4) ≤ 4
two_or_four true = omega arith
two_or_four false = omega arith

column_low : (s : Sizes) (c : Column) → column_width s c ≤ 4
column_low s col.U1 = omega arith
column_low s col.U2 = omega arith
column_low s col.U4 = omega arith
column_low s col.Name = two_or_four (nat_lt s.strings 0x10000)
column_low s col.Guid = omega arith
column_low s col.Blob = two_or_four (nat_lt s.blobs 0x10000)
column_low s (col.Row table) = two_or_four (nat_lt (s.rows table) 0x10000)
column_low s (col.Coded kind) = two_or_four (list_all (λ table. nat_lt (s.rows table) (2 ^ (16 - tag_bits kind))) (tables_of kind))

cell_low : (c : Context) (cell : Cell) → length (cell_bytes c cell) ≤ 4
cell_low c cell =
    let is = length-little_endian (column_width (sizes_of c) (column_of cell)) (cell_value c.names c.blobs cell) in
    let most = column_low (sizes_of c) (column_of cell) in
    omega arith

rows_low : (c : Context) (cells : List Cell) → length (flat_map (cell_bytes c) cells) ≤ 4 * length cells
rows_low c [] = omega arith
rows_low c (cell ∷ cells) =
    let both = length-append (cell_bytes c cell) (flat_map (cell_bytes c) cells) in
    let first = cell_low c cell in
    let rest = rows_low c cells in
    omega arith

-- ---- heaps: each text once is no more than all

abbrev size : (List ℕ → List ℕ) → List (List ℕ) → ℕ
size entry texts = length (flat_map entry texts)

size-cons : (entry : List ℕ → List ℕ) (text : List ℕ) (texts : List (List ℕ)) → size entry (text ∷ texts) ≡ length (entry text) + size entry texts
size-cons entry text texts = length-append (entry text) (flat_map entry texts)

kept_low : (entry : List ℕ → List ℕ) (text : List ℕ) (keep : Bool) (kept texts : List (List ℕ)) → size entry kept ≤ size entry texts → size entry (cond keep (text ∷ kept) kept) ≤ size entry (text ∷ texts)
kept_low entry text true kept texts h =
    let one = size-cons entry text kept in
    let two = size-cons entry text texts in
    omega arith
kept_low entry text false kept texts h =
    let two = size-cons entry text texts in
    omega arith

filter_low : (entry : List ℕ → List ℕ) (keep : List ℕ → Bool) (texts : List (List ℕ)) → size entry (filter keep texts) ≤ size entry texts
filter_low entry keep [] = omega arith
filter_low entry keep (text ∷ texts) = kept_low entry text (keep text) (filter keep texts) texts (filter_low entry keep texts)

distinct_low : (entry : List ℕ → List ℕ) (texts : List (List ℕ)) → size entry (distinct texts) ≤ size entry texts
distinct_low entry [] = omega arith
distinct_low entry (text ∷ texts) =
    let rest = distinct_low entry texts in
    let others = filter_low entry (λ other. not (bytes_eq text other)) (distinct texts) in
    let one = size-cons entry text (filter (λ other. not (bytes_eq text other)) (distinct texts)) in
    let two = size-cons entry text texts in
    omega arith

-- ---- what a column and its text take

-- four bytes, the text of a name with a zero, and a blob with its length
abbrev pub weight : Cell → ℕ
weight (u1 value) = 4
weight (u2 value) = 4
weight (u4 value) = 4
weight (name text) = 5 + length text
weight (guid index) = 4
weight (signature text) = 8 + length text
weight (blob text) = 8 + length text
weight (row table index) = 4
weight (coded kind index) = 4

abbrev pub weights : List Cell → ℕ
weights [] = 0
weights (cell ∷ cells) = weight cell + weights cells

pub weights-append : (a b : List Cell) → weights (a ++ b) ≡ weights a + weights b
weights-append [] b = omega arith
weights-append (cell ∷ a) b = let rest = weights-append a b in omega arith

pick : (b : Bool) (x y : List ℕ) → length x ≤ 4 → length y ≤ 4 → length (if b then x else y) ≤ 4
pick true x y p q = p
pick false x y p q = q

compressed_low : (v : ℕ) → length (compressed v) ≤ 4
compressed_low v = pick (nat_lt v 0x80) _ _ (omega arith) (pick (nat_lt v 0x4000) _ _ (omega arith) (omega arith))

name_low : (text : List ℕ) (rest : List (List ℕ)) → size name_entry (filled text ++ rest) ≤ 1 + length text + size name_entry rest
name_low [] rest = omega arith
name_low (byte ∷ text) rest =
    let one = size-cons name_entry (byte ∷ text) rest in
    let two = length-append (byte ∷ text) (0 ∷ []) in
    omega arith

blob_low : (text : List ℕ) (rest : List (List ℕ)) → size blob_entry (filled text ++ rest) ≤ 4 + length text + size blob_entry rest
blob_low [] rest = omega arith
blob_low (byte ∷ text) rest =
    let one = size-cons blob_entry (byte ∷ text) rest in
    let two = length-append (compressed (length (byte ∷ text))) (byte ∷ text) in
    let three = compressed_low (length (byte ∷ text)) in
    omega arith

-- the columns, the names and the blobs
abbrev sum_of : List Cell → ℕ
sum_of cells = 4 * length cells + size name_entry (flat_map name_of cells) + size blob_entry (flat_map blob_of cells)

one_low : (cell : Cell) (cells : List Cell) → sum_of cells ≤ weights cells → sum_of (cell ∷ cells) ≤ weight cell + weights cells
one_low (u1 value) cells h = omega arith
one_low (u2 value) cells h = omega arith
one_low (u4 value) cells h = omega arith
one_low (name text) cells h = let more = name_low text (flat_map name_of cells) in omega arith
one_low (guid index) cells h = omega arith
one_low (signature text) cells h = let more = blob_low text (flat_map blob_of cells) in omega arith
one_low (blob text) cells h = let more = blob_low text (flat_map blob_of cells) in omega arith
one_low (row table index) cells h = omega arith
one_low (coded kind index) cells h = omega arith

sum_low : (cells : List Cell) → sum_of cells ≤ weights cells
sum_low [] = omega arith
sum_low (cell ∷ cells) = one_low cell cells (sum_low cells)

-- ---- streams

zeros_size : (n : ℕ) → length (replicate {A = ℕ} n 0) ≡ n
zeros_size n = length-replicate n 0

padded_low : (bytes : List ℕ) → length (padded bytes) ≤ 3 + length bytes
padded_low bytes =
    let both = length-append bytes (replicate (padding (length bytes)) 0) in
    let zeros = zeros_size (padding (length bytes)) in
    omega arith

count_low : (none : Bool) (n : ℕ) (rest : List Field) → width_of ((if none then [] else number 4 n ∷ []) ++ rest) ≤ 4 + width_of rest
count_low true n rest = omega arith
count_low false n rest = omega arith

counts_low : (rows : Table → ℕ) (all : List Table) → width_of (flat_map (count_field rows) all) ≤ 4 * length all
counts_low rows [] = omega arith
counts_low rows (table ∷ all) =
    let one = count_low (rows table == 0) (rows table) (flat_map (count_field rows) all) in
    let rest = counts_low rows all in
    omega arith

header_low : (s : Sizes) → length (bytes_of (tables_header s)) ≤ 104
header_low s =
    let is = length-bytes_of (tables_header s) in
    let rest : width_of (flat_map (count_field s.rows) tables) ≤ 80 = counts_low s.rows tables in
    let whole : width_of (tables_header s) ≡ 24 + width_of (flat_map (count_field s.rows) tables) = omega arith in
    omega (arith, is, rest, whole)

tables_low : (c : Context) (cells : List Cell) → length (tables_stream c cells) ≤ 107 + 4 * length cells
tables_low c cells =
    let head = bytes_of (tables_header (sizes_of c)) in
    let rest = flat_map (cell_bytes c) cells in
    let padding_low = padded_low (head ++ rest) in
    let both = length-append head rest in
    let first = header_low (sizes_of c) in
    let second = rows_low c cells in
    omega (arith, padding_low, both, first, second)

strings_low : (texts : List (List ℕ)) → length (strings_stream texts) ≤ 4 + size name_entry texts
strings_low texts = let most = padded_low (heap_bytes name_entry texts) in omega arith

blobs_low : (texts : List (List ℕ)) → length (blob_stream texts) ≤ 4 + size blob_entry texts
blobs_low texts = let most = padded_low (heap_bytes blob_entry texts) in omega arith

six : (a b c d e f : List ℕ) → length (a ++ (b ++ (c ++ (d ++ (e ++ f))))) ≡ length a + (length b + (length c + (length d + (length e + length f))))
six a b c d e f = simp length-append

-- the head of the metadata has the same size whatever it holds
head_size : (a b c d : List ℕ) → length (bytes_of (root_layout a b c d)) ≡ 108
head_size a b c d = refl

metadata_size : (m : Module) → length (metadata_bytes m) ≡ 108 + (length (tables_stream (context m) (all_cells m)) + (length (strings_stream (names_of (all_cells m))) + (length (user_strings_stream m.texts) + (16 + length (blob_stream (blobs_of (all_cells m)))))))
unfolding metadata_with
metadata_size m =
    let rows = tables_stream (context m) (all_cells m) in
    let strings = strings_stream (names_of (all_cells m)) in
    let texts = user_strings_stream m.texts in
    let blobs = blob_stream (blobs_of (all_cells m)) in
    six (bytes_of (root_layout rows strings texts blobs)) rows strings texts (replicate GUID_SIZE 0) blobs

pub metadata_low : (m : Module) → length (metadata_bytes m) ≤ 256 + length (user_strings_stream m.texts) + weights (all_cells m)
metadata_low m =
    let cells = all_cells m in
    let is = metadata_size m in
    let rows = tables_low (context m) cells in
    let strings = strings_low (names_of cells) in
    let blobs = blobs_low (blobs_of cells) in
    let names_once = distinct_low name_entry (flat_map name_of cells) in
    let blobs_once = distinct_low blob_entry (flat_map blob_of cells) in
    let all = sum_low cells in
    omega (arith, is, rows, strings, blobs, names_once, blobs_once, all)
