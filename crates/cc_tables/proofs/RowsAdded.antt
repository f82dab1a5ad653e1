-- Rows that are read one after the other, row by row in a table and table by table.
use Rattle.std.specs.Option.{is_some}
use Rattle.std.proofs.Common.{◌≡◌, ◌≢◌, Bool, true, false, Option, ℕ, zero, suc, ◌+◌, ◌-◌, ◌*◌, ◌<◌, ◌≤◌, List, [], ◌∷◌, ◌++◌, length, get_or, take, drop, map, Some, None, refl, sym, ap, subst, ◌∙◌, append_assoc, inl, inr, arith}
use Rattle.std.specs.List.{flat_map, sum}
use Rattle.std.proofs.Math.Nat.{suc-mul}
use Rattle.std.proofs.lemmas.List.{append-nil, drop-drop, length-append, length-drop}
use Rattle.std.proofs.lemmas.List.Concat.{flat_map-cons}
use Rattle.std.proofs.lemmas.Grind.{flat_map-append}
use Rattle.std.proofs.lemmas.List.Sums.{sum_by-cons}
use Rattle.cc_module.specs.declared.table.Table.{Table}
use Rattle.cc_module.specs.declared.table.Table.TheVariants as the
use Rattle.cc_module.specs.declared.module.Module.{Module}
use Rattle.cc_module.specs.Rows.{Cell, row_count}
use Rattle.cc_module.specs.Metadata.{Sizes, tables, table_number, names_of, blobs_of}
use Rattle.cc_tables.specs.declared.fault.TableFault.{TableFault}
use Rattle.cc_tables.specs.declared.fault.TableFault.TheVariants.{BadTable, Memory}
use Rattle.cc_tables.specs.declared.numbering.Numbering.{Numbering}
use Rattle.cc_tables.specs.declared.read_rows.RowReader.{RowReader}
use Rattle.cc_tables.specs.Columns.{columns_of, row_size, table_size, rows_size}
use Rattle.cc_tables.specs.declared.heap.HeapKind.TheVariants.{Names, Blobs}
use Rattle.cc_tables.specs.Numbering.{IsNumbering, IsHeap, heap_texts, Numbered, numbered}
use Rattle.cc_tables.specs.Reading.{RowNumbers, numbers_in, table_numbers, tables_numbers, IsRow, AreRows, RowFault}
use Rattle.cc_tables.specs.Progress.{HasMet, row_at, tables_from, IsReady, GoesOn, HasRead}
use Rattle.cc_tables.proofs.Numbered.{all_names, all_blobs}

-- ---- lists of rows

module _ (strings blobs : List ℕ) where
  pub rows_both : (first second : List RowNumbers) (before a b : List Cell) → AreRows strings blobs before first a → AreRows strings blobs (before ++ a) second b → AreRows strings blobs before (first ++ second) (a ++ b)
  rows_both [] second before a b h k =
      let here : AreRows strings blobs before second b = subst (λ (x : List Cell). AreRows strings blobs x second b) (ap (λ (x : List Cell). before ++ x) h ∙ append-nil before) k in
      subst (λ (x : List Cell). AreRows strings blobs before second (x ++ b)) (sym h) here
  rows_both (r ∷ first) second before a b (cells, more, is, parts, rest) k =
      let further : AreRows strings blobs ((before ++ cells) ++ more) second b =
      subst (λ (x : List Cell). AreRows strings blobs x second b) (ap (λ (x : List Cell). before ++ x) parts ∙ sym (append_assoc before cells more)) k in
      let whole : a ++ b ≡ cells ++ (more ++ b) = ap (λ (x : List Cell). x ++ b) parts ∙ append_assoc cells more b in
      (cells, more ++ b, is, whole, rows_both first second (before ++ cells) more b rest further)

  pub fault_front : (first second : List RowNumbers) (before : List Cell) (fault : TableFault) → RowFault strings blobs before first fault → RowFault strings blobs before (first ++ second) fault
  fault_front [] second before fault h = absurd h
  fault_front (r ∷ first) second before fault (inl h) = inl h
  fault_front (r ∷ first) second before fault (inr (cells, is, more)) = inr (cells, is, fault_front first second (before ++ cells) fault more)

  pub fault_back : (first second : List RowNumbers) (before a : List Cell) (fault : TableFault) → AreRows strings blobs before first a → RowFault strings blobs (before ++ a) second fault → RowFault strings blobs before (first ++ second) fault
  fault_back [] second before a fault h k = subst (λ (x : List Cell). RowFault strings blobs x second fault) (ap (λ (x : List Cell). before ++ x) h ∙ append-nil before) k
  fault_back (r ∷ first) second before a fault (cells, more, is, parts, rest) k =
      let further : RowFault strings blobs ((before ++ cells) ++ more) second fault =
      subst (λ (x : List Cell). RowFault strings blobs x second fault) (ap (λ (x : List Cell). before ++ x) parts ∙ sym (append_assoc before cells more)) k in
      inr (cells, is, fault_back first second (before ++ cells) more fault rest further)

  one_row : (r : RowNumbers) (before cells : List Cell) → IsRow strings blobs before r cells → AreRows strings blobs before (r ∷ []) cells
  one_row r before cells is = (cells, [], is, sym (append-nil cells), refl)

-- ---- the rows of a table

-- where some rows are left, one stands at the front
pub room_one : (left next width : ℕ) (rest : List ℕ) → left ≡ suc next → left * width ≤ length rest → width ≤ length rest
room_one left next width rest e h = let opened : left * width ≡ next * width + width = ap (λ (n : ℕ). n * width) e ∙ suc-mul next width in omega (arith, h, opened)

pub room_next : (left next width : ℕ) (rest after : List ℕ) → left ≡ suc next → after ≡ drop width rest → left * width ≤ length rest → next * width ≤ length after
room_next left next width rest after e back h =
    let opened : left * width ≡ next * width + width = ap (λ (n : ℕ). n * width) e ∙ suc-mul next width in omega (arith, h, opened, ap length back, length-drop width rest)

pub room_first : (count width : ℕ) (bytes : List ℕ) → count * width ≤ length bytes → (count - 0) * width ≤ length bytes
room_first count width bytes h = let all : count ≡ count - 0 = omega arith in subst (λ (n : ℕ). n * width ≤ length bytes) all h

-- so many rows of a table have been read, and the others stand in `rest`
pub record InTable (strings blobs : List ℕ) (s : Sizes) (table : Table) (whole : List RowNumbers) (before : List Cell) (place left : ℕ) (rest : List ℕ) (numbering : Numbering) (cells : List Cell) : Type 0 where
  pub so_far : List RowNumbers
  pub rows : AreRows strings blobs before so_far cells
  pub parts : whole ≡ so_far ++ table_numbers s table (place + 1) left rest
  pub met : HasMet numbering (before ++ cells)

pub none_read : (strings blobs : List ℕ) (s : Sizes) (table : Table) (count : ℕ) (before : List Cell) (bytes : List ℕ) (numbering : Numbering) (cells : List Cell) → cells ≡ [] → HasMet numbering before
    → InTable strings blobs s table (table_numbers s table 1 count bytes) before 0 (count - 0) bytes numbering cells
none_read strings blobs s table count before bytes numbering cells e h =
    let all : count ≡ count - 0 = omega arith in
    record { so_far = []; rows = e; parts = ap (λ (n : ℕ). table_numbers s table 1 n bytes) all; met = subst (HasMet numbering) (sym (append-nil before) ∙ ap (λ (x : List Cell). before ++ x) (sym e)) h }

pub all_read : (strings blobs : List ℕ) (s : Sizes) (table : Table) (whole : List RowNumbers) (before : List Cell) (place left : ℕ) (rest : List ℕ) (numbering : Numbering) (cells : List Cell) → left ≡ 0
    → InTable strings blobs s table whole before place left rest numbering cells → AreRows strings blobs before whole cells
unfolding table_numbers
all_read strings blobs s table whole before place left rest numbering cells z h =
    let all : whole ≡ h.so_far = h.parts ∙ ap (λ (n : ℕ). h.so_far ++ table_numbers s table (place + 1) n rest) z ∙ append-nil h.so_far in
    subst (λ (x : List RowNumbers). AreRows strings blobs before x cells) (sym all) h.rows

module _ (strings blobs : List ℕ) (s : Sizes) (table : Table) (whole : List RowNumbers) (before : List Cell) (place left next : ℕ) (rest : List ℕ) (numbering : Numbering) (cells : List Cell) (h : InTable strings blobs s table whole before place left rest numbering cells) (more : left ≡ suc next) where
  opened : whole ≡ h.so_far ++ row_at s table (place + 1) rest ∷ table_numbers s table (place + 1 + 1) next (drop (row_size s table) rest)
  unfolding table_numbers
  opened = h.parts ∙ ap (λ (n : ℕ). h.so_far ++ table_numbers s table (place + 1) n rest) more

  pub row_refused : ((all : List Cell) → IsRow strings blobs (before ++ cells) (row_at s table (place + 1) rest) all → ⊥) → (fault : TableFault) → fault ≡ BadTable (table_number table) (place + 1) → RowFault strings blobs before whole fault
  row_refused is_none fault is =
      let here : RowFault strings blobs (before ++ cells) (row_at s table (place + 1) rest ∷ table_numbers s table (place + 1 + 1) next (drop (row_size s table) rest)) fault = inl (is_none, is) in
      subst (λ (x : List RowNumbers). RowFault strings blobs before x fault) (sym opened) (fault_back strings blobs h.so_far _ before cells fault h.rows here)

  pub row_read : (new : Numbering) (one : List Cell) (after : List ℕ) → IsRow strings blobs (before ++ cells) (row_at s table (place + 1) rest) one → HasMet new ((before ++ cells) ++ one) → after ≡ drop (row_size s table) rest
      → InTable strings blobs s table whole before (place + 1) next after new (cells ++ one)
  row_read new one after is met back =
      record {
        so_far = h.so_far ++ row_at s table (place + 1) rest ∷ [];
        rows = rows_both strings blobs h.so_far (row_at s table (place + 1) rest ∷ []) before cells one h.rows (one_row strings blobs (row_at s table (place + 1) rest) (before ++ cells) one is);
        parts = opened ∙ sym (append_assoc h.so_far (row_at s table (place + 1) rest ∷ []) (table_numbers s table (place + 1 + 1) next (drop (row_size s table) rest)))
            ∙ ap (λ (x : List ℕ). (h.so_far ++ row_at s table (place + 1) rest ∷ []) ++ table_numbers s table (place + 1 + 1) next x) (sym back);
        met = subst (HasMet new) (append_assoc before cells one) met;
      }

pub row_more : {R : Type 0} (columns : R → List Cell) (old new : List R) (r : R) → new ≡ old ++ r ∷ [] → flat_map columns new ≡ flat_map columns old ++ columns r
row_more columns old new r e =
    ap (flat_map columns) e ∙ flat_map-append columns old (r ∷ []) ∙ ap (λ (x : List Cell). flat_map columns old ++ x) (flat_map-cons columns r [] ∙ append-nil (columns r))

-- ---- the tables

pub none_kept : (fault : Option TableFault) (found : Bool) → found ≡ is_some fault → found ≡ false → fault ≡ None
none_kept None found e z = refl
none_kept (Some fault) found e z = let same : true ≡ false = sym e ∙ z in absurd cc

tables_step : (table : Table) → tables_from table ≡ table ∷ drop 1 (tables_from table)
tables_step the.Module = refl
tables_step the.TypeRef = refl
tables_step the.TypeDef = refl
tables_step the.Field = refl
tables_step the.MethodDef = refl
tables_step the.Param = refl
tables_step the.InterfaceImpl = refl
tables_step the.MemberRef = refl
tables_step the.Constant = refl
tables_step the.StandAloneSig = refl
tables_step the.PropertyMap = refl
tables_step the.Property = refl
tables_step the.MethodSemantics = refl
tables_step the.MethodImpl = refl
tables_step the.TypeSpec = refl
tables_step the.Assembly = refl
tables_step the.AssemblyRef = refl
tables_step the.GenericParam = refl
tables_step the.MethodSpec = refl
tables_step the.GenericParamConstraint = refl

module _ (s : Sizes) (bytes : List ℕ) (table : Table) (old : RowReader) where
  size_step : sum (map (table_size s) (tables_from table)) ≡ table_size s table + sum (map (table_size s) (drop 1 (tables_from table)))
  size_step =
      ap (λ (x : List Table). sum (map (table_size s) x)) (tables_step table) ∙ sum_by-cons (λ (x : ℕ). x) (table_size s table) (map (table_size s) (drop 1 (tables_from table)))

  pub table_there : IsReady s bytes (tables_from table) old → old.place + table_size s table ≤ length bytes
  table_there h = let room = h.room in omega (arith, room, size_step)

  pub ready_after : IsReady s bytes (tables_from table) old → (new : RowReader) → IsNumbering new.numbering → new.place ≡ old.place + table_size s table → IsReady s bytes (drop 1 (tables_from table)) new
  ready_after h new whole at = let room = h.room in record { whole = whole; room = omega (arith, room, size_step, at) }

module _ (strings blobs : List ℕ) (s : Sizes) (bytes : List ℕ) (all : List RowNumbers) (table : Table) (old new : RowReader) (cells : List Cell) (h : HasRead strings blobs s bytes all (tables_from table) old cells) where
  -- behind a fault nothing is read
  pub nothing_read : (fault : TableFault) (left : List Table) (more : List Cell) → old.fault ≡ Some fault → new.fault ≡ old.fault → HasRead strings blobs s bytes all left new more
  nothing_read fault left more is same = record { fault = λ other e. h.fault other (sym same ∙ e); rows = λ e. let no : Some fault ≡ None = sym is ∙ sym same ∙ e in absurd cc }

  module _ (none : old.fault ≡ None) where
    on : GoesOn strings blobs s bytes all (tables_from table) old cells
    on = h.rows none

    parted : all ≡ on.so_far ++ (table_numbers s table 1 (s.rows table) (drop old.place bytes) ++ tables_numbers s (drop 1 (tables_from table)) (drop (table_size s table) (drop old.place bytes)))
    unfolding tables_numbers
    parted = on.parts ∙ ap (λ (x : List Table). on.so_far ++ tables_numbers s x (drop old.place bytes)) (tables_step table)

    -- a row of the table is none
    pub fault_read : (fault : TableFault) (left : List Table) (more : List Cell) → new.fault ≡ Some fault → (fault ≢ Memory → RowFault strings blobs cells (table_numbers s table 1 (s.rows table) (drop old.place bytes)) fault)
        → HasRead strings blobs s bytes all left new more
    fault_read fault left more is bad =
        record {
          fault = λ other e some.
              let same : fault ≡ other = cc in
              let own = bad (λ m. some (sym same ∙ m)) in
              let front = fault_front strings blobs (table_numbers s table 1 (s.rows table) (drop old.place bytes)) (tables_numbers s (drop 1 (tables_from table)) (drop (table_size s table) (drop old.place bytes))) cells fault own in
              let whole = fault_back strings blobs on.so_far _ [] cells fault on.rows front in
              subst (RowFault strings blobs [] all) same (subst (λ (x : List RowNumbers). RowFault strings blobs [] x fault) (sym parted) whole);
          rows = λ e. let no : Some fault ≡ None = sym is ∙ e in absurd cc;
        }

    -- all are rows
    pub table_read : (more : List Cell) → new.fault ≡ None → new.place ≡ old.place + table_size s table → AreRows strings blobs cells (table_numbers s table 1 (s.rows table) (drop old.place bytes)) more → HasMet new.numbering (cells ++ more)
        → HasRead strings blobs s bytes all (drop 1 (tables_from table)) new (cells ++ more)
    table_read more still at are met =
        let so_far = on.so_far ++ table_numbers s table 1 (s.rows table) (drop old.place bytes) in
        let left = drop 1 (tables_from table) in
        let back : drop (table_size s table) (drop old.place bytes) ≡ drop new.place bytes = drop-drop (table_size s table) old.place bytes ∙ ap (λ (n : ℕ). drop n bytes) (sym at) in
        record {
          fault = λ other e. let no : Some other ≡ None = sym e ∙ still in absurd cc;
          rows = λ e. record {
            so_far = so_far;
            rows = rows_both strings blobs on.so_far (table_numbers s table 1 (s.rows table) (drop old.place bytes)) [] cells more on.rows are;
            parts = parted ∙ sym (append_assoc on.so_far (table_numbers s table 1 (s.rows table) (drop old.place bytes)) (tables_numbers s left (drop (table_size s table) (drop old.place bytes))))
                ∙ ap (λ (x : List ℕ). so_far ++ tables_numbers s left x) back;
            met = met;
          };
        }

-- ---- all tables

pub start_ready : (s : Sizes) (bytes : List ℕ) (reader : RowReader) → HasMet reader.numbering [] → reader.place ≡ 0 → sum (map (table_size s) tables) ≤ length bytes → IsReady s bytes tables reader
start_ready s bytes reader met at room = record { whole = met.whole; room = omega (arith, at, room) }

pub start_read : (strings blobs : List ℕ) (s : Sizes) (bytes : List ℕ) (reader : RowReader) → HasMet reader.numbering [] → reader.place ≡ 0 → reader.fault ≡ None → HasRead strings blobs s bytes (tables_numbers s tables bytes) tables reader []
start_read strings blobs s bytes reader met at none =
    record {
      fault = λ other e. let no : Some other ≡ None = sym e ∙ none in absurd cc;
      rows = λ e. record { so_far = []; rows = refl; parts = ap (λ (n : ℕ). tables_numbers s tables (drop n bytes)) (sym at); met = met };
    }

pub end_read : (strings blobs : List ℕ) (s : Sizes) (bytes : List ℕ) (all : List RowNumbers) (reader : RowReader) (cells : List Cell) → HasRead strings blobs s bytes all [] reader cells → reader.fault ≡ None → AreRows strings blobs [] all cells × HasMet reader.numbering cells
unfolding tables_numbers
end_read strings blobs s bytes all reader cells h none =
    let on = h.rows none in
    let whole : all ≡ on.so_far = on.parts ∙ append-nil on.so_far in
    (subst (λ (x : List RowNumbers). AreRows strings blobs [] x cells) (sym whole) on.rows, on.met)

-- columns joined one after the other, and table by table
left_joined : List Cell → List (List Cell) → List Cell
left_joined done [] = done
left_joined done (cells ∷ more) = left_joined (done ++ cells) more

right_joined : List Cell → List (List Cell) → List Cell
right_joined cells [] = cells
right_joined cells (next ∷ more) = cells ++ right_joined next more

joined : (done cells : List Cell) (more : List (List Cell)) → left_joined done (cells ∷ more) ≡ done ++ right_joined cells more
unfolding left_joined right_joined
joined done cells [] = refl
joined done cells (next ∷ more) = joined (done ++ cells) next more ∙ append_assoc done cells (right_joined next more)

pub all_joined : (a b c d e f g h i j k l m n o p q r s t : List Cell)
    → ((((((((((((((((((([] ++ a) ++ b) ++ c) ++ d) ++ e) ++ f) ++ g) ++ h) ++ i) ++ j) ++ k) ++ l) ++ m) ++ n) ++ o) ++ p) ++ q) ++ r) ++ s) ++ t
    ≡ (a ++ (b ++ (c ++ (d ++ (e ++ (f ++ (g ++ (h ++ i)))))))) ++ (j ++ (k ++ (l ++ (m ++ (n ++ (o ++ (p ++ (q ++ (r ++ (s ++ t))))))))))
unfolding left_joined right_joined
all_joined a b c d e f g h i j k l m n o p q r s t =
    let early : ((((((((([] ++ a) ++ b) ++ c) ++ d) ++ e) ++ f) ++ g) ++ h) ++ i) ≡ a ++ (b ++ (c ++ (d ++ (e ++ (f ++ (g ++ (h ++ i))))))) = joined [] a (b ∷ c ∷ d ∷ e ∷ f ∷ g ∷ h ∷ i ∷ []) in
    joined ((((((((([] ++ a) ++ b) ++ c) ++ d) ++ e) ++ f) ++ g) ++ h) ++ i) j (k ∷ l ∷ m ∷ n ∷ o ∷ p ∷ q ∷ r ∷ s ∷ t ∷ [])
    ∙ ap (λ (x : List Cell). x ++ (j ++ (k ++ (l ++ (m ++ (n ++ (o ++ (p ++ (q ++ (r ++ (s ++ t))))))))))) early

pub all_counted : (m : Module) (rows : Table → ℕ) → length m.modules ≡ rows the.Module → length m.type_refs ≡ rows the.TypeRef → length m.type_defs ≡ rows the.TypeDef → length m.fields ≡ rows the.Field → length m.methods ≡ rows the.MethodDef
    → length m.params ≡ rows the.Param → length m.interface_impls ≡ rows the.InterfaceImpl → length m.member_refs ≡ rows the.MemberRef → length m.constants ≡ rows the.Constant → length m.stand_alone_sigs ≡ rows the.StandAloneSig
    → length m.property_maps ≡ rows the.PropertyMap → length m.properties ≡ rows the.Property → length m.method_semantics ≡ rows the.MethodSemantics → length m.method_impls ≡ rows the.MethodImpl → length m.type_specs ≡ rows the.TypeSpec
    → length m.assemblies ≡ rows the.Assembly → length m.assembly_refs ≡ rows the.AssemblyRef → length m.generic_params ≡ rows the.GenericParam → length m.method_specs ≡ rows the.MethodSpec
    → length m.generic_param_constraints ≡ rows the.GenericParamConstraint → (table : Table) → row_count m table ≡ rows table
all_counted m rows a b c d e f g h i j k l n o p q r s t u the.Module = a
all_counted m rows a b c d e f g h i j k l n o p q r s t u the.TypeRef = b
all_counted m rows a b c d e f g h i j k l n o p q r s t u the.TypeDef = c
all_counted m rows a b c d e f g h i j k l n o p q r s t u the.Field = d
all_counted m rows a b c d e f g h i j k l n o p q r s t u the.MethodDef = e
all_counted m rows a b c d e f g h i j k l n o p q r s t u the.Param = f
all_counted m rows a b c d e f g h i j k l n o p q r s t u the.InterfaceImpl = g
all_counted m rows a b c d e f g h i j k l n o p q r s t u the.MemberRef = h
all_counted m rows a b c d e f g h i j k l n o p q r s t u the.Constant = i
all_counted m rows a b c d e f g h i j k l n o p q r s t u the.StandAloneSig = j
all_counted m rows a b c d e f g h i j k l n o p q r s t u the.PropertyMap = k
all_counted m rows a b c d e f g h i j k l n o p q r s t u the.Property = l
all_counted m rows a b c d e f g h i j k l n o p q r s t u the.MethodSemantics = n
all_counted m rows a b c d e f g h i j k l n o p q r s t u the.MethodImpl = o
all_counted m rows a b c d e f g h i j k l n o p q r s t u the.TypeSpec = p
all_counted m rows a b c d e f g h i j k l n o p q r s t u the.Assembly = q
all_counted m rows a b c d e f g h i j k l n o p q r s t u the.AssemblyRef = r
all_counted m rows a b c d e f g h i j k l n o p q r s t u the.GenericParam = s
all_counted m rows a b c d e f g h i j k l n o p q r s t u the.MethodSpec = t
all_counted m rows a b c d e f g h i j k l n o p q r s t u the.GenericParamConstraint = u

-- ---- the heaps of all columns

module _ (numbering : Numbering) (cells : List Cell) (h : HasMet numbering cells) where
  pub names_read : IsHeap Names numbering.names × (heap_texts numbering.names ≡ names_of cells)
  unfolding numbered
  names_read = (h.whole.names, ap (λ (x : Numbered). x.names) h.met ∙ all_names cells)

  pub blobs_read : IsHeap Blobs numbering.blobs × (heap_texts numbering.blobs ≡ blobs_of cells)
  unfolding numbered
  blobs_read = (h.whole.blobs, ap (λ (x : Numbered). x.blobs) h.met ∙ all_blobs cells)

pub start_room : (s : Sizes) (bytes : List ℕ) → rows_size s ≤ length bytes → sum (map (table_size s) tables) ≤ length bytes
unfolding rows_size
start_room s bytes h = h
