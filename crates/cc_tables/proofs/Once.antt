-- What bytes tell, where no check fails, is one module, and then there is no fault.
use Rattle.std.proofs.Common.{◌≡◌, ℕ, zero, suc, ◌+◌, ◌*◌, ◌^◌, ◌≤◌, ◌<◌, List, [], ◌∷◌, ◌++◌, length, get_or, drop, map, replicate, Option, Some, None, refl, sym, ap, subst, ◌∙◌, ◌⊎◌, inl, inr, append_assoc, arith}
use Rattle.std.specs.List.{flat_map, AllByRecursion}
use Rattle.std.specs.List.Sorted.{IsNonDecreasingBy, IsSorted}
use Rattle.std.proofs.lemmas.Bool.{cases_lt, lt-ltb, le-ltb}
use Rattle.std.proofs.lemmas.List.{append-nil, length-append, length-replicate, drop_at, append_cancel_left}
use Rattle.cc_cil.specs.Bodies.{padding, zeros}
use Rattle.cc_layout.specs.Compressed.{compressed}
use Rattle.cc_layout.specs.Layout.{FitsField, bytes_of, fault_of}
use Rattle.cc_layout.proofs.Laws.{bytes_of-no_fault}
use Rattle.cc_layout.proofs.CompressedForms.{compressed_free}
use Rattle.cc_module.specs.declared.table.Table.{Table}
use Rattle.cc_module.specs.declared.table.Table.TheVariants as the
use Rattle.cc_module.specs.declared.table.CodedIndex.TheVariants as any
use Rattle.cc_module.specs.declared.module.Module.{Module}
use Rattle.cc_module.specs.Heaps.{padded, heap_bytes, special_mark, text_entry}
use Rattle.cc_module.specs.Indexes.{constant_code, semantics_code}
use Rattle.cc_module.specs.Rows.{Cell, u1, u2, u4, name, guid, signature, blob, row, coded, all_cells, row_count}
use Rattle.cc_module.specs.Metadata.{blobs_of}
use Rattle.cc_module.specs.Signatures.{IsSignature}
use Rattle.cc_module.specs.Storable.{generic_param_cmp, IsSortedModule}
use Rattle.cc_tables.specs.declared.fault.TableFault.{TableFault}
use Rattle.cc_tables.specs.declared.headers.StreamLengths.{StreamLengths}
use Rattle.cc_tables.specs.declared.heap.HeapKind.{HeapKind}
use Rattle.cc_tables.specs.declared.heap.HeapKind.TheVariants.{Names, Blobs}
use Rattle.cc_tables.specs.Faults.{lengths_in, stream_located, end_fault, first}
use Rattle.cc_tables.specs.Forms.{Form, strings_heap, blob_heap, user_strings_heap, IsHeapText, heap_entry, form_of, BeginsNone, Entries, HasForm, HasSomeForm, FormFault, StandsAt}
use Rattle.cc_tables.specs.Reading.{Streams, streams_in, start_fault, blobs_place, RowNumbers, IsRowOf, Tells, TellsFrom, IsRow, AreRows, RowFault, heaps_fault, OrderFault, signature_of, SignatureFault, ModuleFault, ContentFault, HasRows, RowsFault, AreFormed, FormsFault, IsFirstFault}
use Rattle.cc_tables.proofs.Entries.{stands_one, entry_one}
use Rattle.cc_tables.proofs.Forming.{bytes_of-zeros}
use Rattle.cc_tables.proofs.UserStrings.{units_bytes, units_one}
use Rattle.cc_tables.proofs.SameRows.{number_in, text_in, SameRows, same_rows}
use Rattle.cc_tables.proofs.Found.{IsRead}

-- ---- a column: what it is, without its number or text

abbrev shape : Cell → Cell
shape (u1 value) = u1 0
shape (u2 value) = u2 0
shape (u4 value) = u4 0
shape (name text) = name []
shape (guid index) = guid 0
shape (signature text) = signature []
shape (blob text) = blob []
shape (row table index) = row table 0
shape (coded kind code) = coded kind 0

abbrev filled_in : Cell → ℕ → List ℕ → Cell
filled_in (u1 value) number text = u1 number
filled_in (u2 value) number text = u2 number
filled_in (u4 value) number text = u4 number
filled_in (name other) number text = name text
filled_in (guid index) number text = guid number
filled_in (signature other) number text = signature text
filled_in (blob other) number text = blob text
filled_in (row table index) number text = row table number
filled_in (coded kind code) number text = coded kind number

parted : (cell : Cell) → cell ≡ filled_in (shape cell) (number_in cell) (text_in cell)
parted (u1 value) = refl
parted (u2 value) = refl
parted (u4 value) = refl
parted (name text) = refl
parted (guid index) = refl
parted (signature text) = refl
parted (blob text) = refl
parted (row table index) = refl
parted (coded kind code) = refl

abbrev wanted : Cell → ℕ → ℕ
wanted (u1 value) number = number
wanted (u2 value) number = number
wanted (u4 value) number = number
wanted (name text) number = 0
wanted (guid index) number = number
wanted (signature text) number = 0
wanted (blob text) number = 0
wanted (row table index) number = number
wanted (coded kind code) number = number

stands_same : (kind : HeapKind) (stream : List ℕ) (place : ℕ) (a b : List ℕ) → StandsAt (form_of kind) stream place a → StandsAt (form_of kind) stream place b → a ≡ b
stands_same kind stream place a b (inl h) (inl k) = h.1 ∙ sym k.1
stands_same kind stream place a b (inl h) (inr k) = absurd (omega (arith, h.0, k.0))
stands_same kind stream place a b (inr (some, h, (more, there))) k = stands_one kind stream place (drop place stream) a more refl some h there b k

module _ (strings blobs : List ℕ) where
  number_told : (n : ℕ) (cell : Cell) → Tells strings blobs n cell → number_in cell ≡ wanted (shape cell) n
  number_told n (u1 value) h = h
  number_told n (u2 value) h = h
  number_told n (u4 value) h = h
  number_told n (name text) h = refl
  number_told n (guid index) h = h
  number_told n (signature text) h = refl
  number_told n (blob text) h = refl
  number_told n (row table index) h = h
  number_told n (coded kind code) h = h

  abbrev TextTold : ℕ → Cell → List ℕ → Type 0
  TextTold n (u1 value) text = text ≡ []
  TextTold n (u2 value) text = text ≡ []
  TextTold n (u4 value) text = text ≡ []
  TextTold n (name other) text = StandsAt strings_heap strings n text
  TextTold n (guid index) text = text ≡ []
  TextTold n (signature other) text = StandsAt blob_heap blobs n text
  TextTold n (blob other) text = StandsAt blob_heap blobs n text
  TextTold n (row table index) text = text ≡ []
  TextTold n (coded kind code) text = text ≡ []

  text_told : (n : ℕ) (cell : Cell) → Tells strings blobs n cell → TextTold n (shape cell) (text_in cell)
  text_told n (u1 value) h = refl
  text_told n (u2 value) h = refl
  text_told n (u4 value) h = refl
  text_told n (name text) h = h
  text_told n (guid index) h = refl
  text_told n (signature text) h = h
  text_told n (blob text) h = h
  text_told n (row table index) h = refl
  text_told n (coded kind code) h = refl

  text_same : (n : ℕ) (kind : Cell) (a b : List ℕ) → TextTold n kind a → TextTold n kind b → a ≡ b
  text_same n (u1 value) a b h k = h ∙ sym k
  text_same n (u2 value) a b h k = h ∙ sym k
  text_same n (u4 value) a b h k = h ∙ sym k
  text_same n (name text) a b h k = stands_same Names strings n a b h k
  text_same n (guid index) a b h k = h ∙ sym k
  text_same n (signature text) a b h k = stands_same Blobs blobs n a b h k
  text_same n (blob text) a b h k = stands_same Blobs blobs n a b h k
  text_same n (row table index) a b h k = h ∙ sym k
  text_same n (coded kind code) a b h k = h ∙ sym k

  same_cell : (n : ℕ) (c d : Cell) → shape c ≡ shape d → Tells strings blobs n c → Tells strings blobs n d → c ≡ d
  same_cell n c d e h k =
      let numbers : number_in c ≡ number_in d = number_told n c h ∙ ap (λ (x : Cell). wanted x n) e ∙ sym (number_told n d k) in
      let texts : text_in c ≡ text_in d =
      text_same n (shape c) (text_in c) (text_in d) (text_told n c h) (subst (λ (x : Cell). TextTold n x (text_in d)) (sym e) (text_told n d k)) in
      parted c ∙ (λ i. filled_in (e i) (numbers i) (texts i)) ∙ sym (parted d)

  same_cells : (numbers : List ℕ) (place : ℕ) (cs ds : List Cell) → map shape cs ≡ map shape ds → TellsFrom strings blobs numbers place cs → TellsFrom strings blobs numbers place ds → cs ≡ ds
  same_cells numbers place [] [] e h k = refl
  same_cells numbers place [] (d ∷ ds) e h k = absurd cc
  same_cells numbers place (c ∷ cs) [] e h k = absurd cc
  same_cells numbers place (c ∷ cs) (d ∷ ds) e h k =
      let front : shape c ≡ shape d = ap (λ (x : List Cell). get_or x 0 (u1 0)) e in
      let back : map shape cs ≡ map shape ds = ap (drop 1) e in
      λ i. same_cell _ c d front h.0 k.0 i ∷ same_cells numbers (place + 1) cs ds back h.1 k.1 i

-- ---- rows

abbrev shapes_of : Table → List Cell
shapes_of the.Module = u2 0 ∷ name [] ∷ guid 0 ∷ guid 0 ∷ guid 0 ∷ []
shapes_of the.TypeRef = coded any.ResolutionScope 0 ∷ name [] ∷ name [] ∷ []
shapes_of the.TypeDef = u4 0 ∷ name [] ∷ name [] ∷ coded any.TypeDefOrRef 0 ∷ row the.Field 0 ∷ row the.MethodDef 0 ∷ []
shapes_of the.Field = u2 0 ∷ name [] ∷ signature [] ∷ []
shapes_of the.MethodDef = u4 0 ∷ u2 0 ∷ u2 0 ∷ name [] ∷ signature [] ∷ row the.Param 0 ∷ []
shapes_of the.Param = u2 0 ∷ u2 0 ∷ name [] ∷ []
shapes_of the.InterfaceImpl = row the.TypeDef 0 ∷ coded any.TypeDefOrRef 0 ∷ []
shapes_of the.MemberRef = coded any.MemberRefParent 0 ∷ name [] ∷ signature [] ∷ []
shapes_of the.Constant = u1 0 ∷ u1 0 ∷ coded any.HasConstant 0 ∷ blob [] ∷ []
shapes_of the.StandAloneSig = signature [] ∷ []
shapes_of the.PropertyMap = row the.TypeDef 0 ∷ row the.Property 0 ∷ []
shapes_of the.Property = u2 0 ∷ name [] ∷ signature [] ∷ []
shapes_of the.MethodSemantics = u2 0 ∷ row the.MethodDef 0 ∷ coded any.HasSemantics 0 ∷ []
shapes_of the.MethodImpl = row the.TypeDef 0 ∷ coded any.MethodDefOrRef 0 ∷ coded any.MethodDefOrRef 0 ∷ []
shapes_of the.TypeSpec = signature [] ∷ []
shapes_of the.Assembly = u4 0 ∷ u2 0 ∷ u2 0 ∷ u2 0 ∷ u2 0 ∷ u4 0 ∷ blob [] ∷ name [] ∷ name [] ∷ []
shapes_of the.AssemblyRef = u2 0 ∷ u2 0 ∷ u2 0 ∷ u2 0 ∷ u4 0 ∷ blob [] ∷ name [] ∷ name [] ∷ blob [] ∷ []
shapes_of the.GenericParam = u2 0 ∷ u2 0 ∷ coded any.TypeOrMethodDef 0 ∷ name [] ∷ []
shapes_of the.MethodSpec = coded any.MethodDefOrRef 0 ∷ signature [] ∷ []
shapes_of the.GenericParamConstraint = row the.GenericParam 0 ∷ coded any.TypeDefOrRef 0 ∷ []

row_shapes : (table : Table) (cells : List Cell) → IsRowOf table cells → map shape cells ≡ shapes_of table
row_shapes the.Module cells (r, e) = ap (map shape) e
row_shapes the.TypeRef cells (r, e) = ap (map shape) e
row_shapes the.TypeDef cells (r, e) = ap (map shape) e
row_shapes the.Field cells (r, e) = ap (map shape) e
row_shapes the.MethodDef cells (r, e) = ap (map shape) e
row_shapes the.Param cells (r, e) = ap (map shape) e
row_shapes the.InterfaceImpl cells (r, e) = ap (map shape) e
row_shapes the.MemberRef cells (r, e) = ap (map shape) e
row_shapes the.Constant cells (r, e) = ap (map shape) e
row_shapes the.StandAloneSig cells (r, e) = ap (map shape) e
row_shapes the.PropertyMap cells (r, e) = ap (map shape) e
row_shapes the.Property cells (r, e) = ap (map shape) e
row_shapes the.MethodSemantics cells (r, e) = ap (map shape) e
row_shapes the.MethodImpl cells (r, e) = ap (map shape) e
row_shapes the.TypeSpec cells (r, e) = ap (map shape) e
row_shapes the.Assembly cells (r, e) = ap (map shape) e
row_shapes the.AssemblyRef cells (r, e) = ap (map shape) e
row_shapes the.GenericParam cells (r, e) = ap (map shape) e
row_shapes the.MethodSpec cells (r, e) = ap (map shape) e
row_shapes the.GenericParamConstraint cells (r, e) = ap (map shape) e

module _ (strings blobs : List ℕ) where
  row_one : (before : List Cell) (r : RowNumbers) (a b : List Cell) → IsRow strings blobs before r a → IsRow strings blobs before r b → a ≡ b
  row_one before r a b h k = same_cells strings blobs r.numbers 0 a b (row_shapes r.table a h.kind ∙ sym (row_shapes r.table b k.kind)) h.told k.told

  pub rows_one : (rows : List RowNumbers) (before a b : List Cell) → AreRows strings blobs before rows a → AreRows strings blobs before rows b → a ≡ b
  rows_one [] before a b h k = h ∙ sym k
  rows_one (r ∷ rows) before a b (cells, more, is, e, rest) (others, behind, was, f, last) =
      let same : cells ≡ others = row_one before r cells others is was in
      let all : more ≡ behind = rows_one rows (before ++ cells) more behind rest (subst (λ (x : List Cell). AreRows strings blobs (before ++ x) rows behind) (sym same) last) in
      e ∙ (λ i. same i ++ all i) ∙ sym f

  no_row_fault : (rows : List RowNumbers) (before all : List Cell) (fault : TableFault) → AreRows strings blobs before rows all → RowFault strings blobs before rows fault → ⊥
  no_row_fault [] before all fault h k = k
  no_row_fault (r ∷ rows) before all fault (cells, more, is, e, rest) (inl (none, f)) = none cells is
  no_row_fault (r ∷ rows) before all fault (cells, more, is, e, rest) (inr (others, was, k)) =
      let same : cells ≡ others = row_one before r cells others is was in
      no_row_fault rows (before ++ cells) more fault rest (subst (λ (x : List Cell). RowFault strings blobs (before ++ x) rows fault) (sym same) k)

-- ---- the forms of the heaps

user_one : (a b x y : List ℕ) → IsHeapText user_strings_heap a → IsHeapText user_strings_heap b → text_entry a ++ x ≡ text_entry b ++ y → a ≡ b
user_one a b x y h k e =
    let body : List ℕ → List ℕ = λ units. units_bytes units ++ special_mark units ∷ [] in
    let f =
    compressed_free (2 * length a + 1) (2 * length b + 1) (body a ++ x) (body b ++ y) h.1 k.1 (sym (append_assoc (compressed (2 * length a + 1)) (body a) x) ∙ e ∙ append_assoc (compressed (2 * length b + 1)) (body b) y) in
    let long : length a ≡ length b = omega (arith, f.0) in
    (units_one a b (special_mark a ∷ x) (special_mark b ∷ y) h.0 k.0 long (sym (append_assoc (units_bytes a) (special_mark a ∷ []) x) ∙ f.1 ∙ append_assoc (units_bytes b) (special_mark b ∷ []) y)).0

text_one : (form : Form) (a b x y : List ℕ) → IsHeapText form a → IsHeapText form b → heap_entry form a ++ x ≡ heap_entry form b ++ y → a ≡ b
text_one strings_heap a b x y h k e = entry_one Names a b x y h k e
text_one blob_heap a b x y h k e = entry_one Blobs a b x y h k e
text_one user_strings_heap a b x y h k e = user_one a b x y h k e

texts_one : (form : Form) (a b : List (List ℕ)) (x y : List ℕ) → AllByRecursion (IsHeapText form) a → AllByRecursion (IsHeapText form) b → BeginsNone form x → BeginsNone form y
    → flat_map (heap_entry form) a ++ x ≡ flat_map (heap_entry form) b ++ y → (a ≡ b) × (x ≡ y)
texts_one form [] [] x y h k n o e = (refl, e)
texts_one form [] (u ∷ b) x y h k n o e = absurd (n u (flat_map (heap_entry form) b ++ y) k.0 (e ∙ append_assoc (heap_entry form u) (flat_map (heap_entry form) b) y))
texts_one form (t ∷ a) [] x y h k n o e = absurd (o t (flat_map (heap_entry form) a ++ x) h.0 (sym e ∙ append_assoc (heap_entry form t) (flat_map (heap_entry form) a) x))
texts_one form (t ∷ a) (u ∷ b) x y h k n o e =
    let entry : List ℕ → List ℕ = heap_entry form in
    let moved : entry t ++ (flat_map entry a ++ x) ≡ entry u ++ (flat_map entry b ++ y) = sym (append_assoc (entry t) (flat_map entry a) x) ∙ e ∙ append_assoc (entry u) (flat_map entry b) y in
    let same : t ≡ u = text_one form t u (flat_map entry a ++ x) (flat_map entry b ++ y) h.0 k.0 moved in
    let rest : flat_map entry a ++ x ≡ flat_map entry b ++ y = append_cancel_left (entry t) (flat_map entry a ++ x) (flat_map entry b ++ y) (moved ∙ ap (λ (z : List ℕ). entry z ++ (flat_map entry b ++ y)) (sym same)) in
    let ih = texts_one form a b x y h.1 k.1 n o rest in
    ((λ i. same i ∷ ih.0 i), ih.1)

-- zeros begin no entry
zeros_first : (n : ℕ) → ◌≡◌ {A = ℕ} (get_or (replicate n 0) 0 0) 0
zeros_first zero = refl
zeros_first (suc n) = refl

compressed_first : (v : ℕ) (x : List ℕ) → 0 < v → 0 < get_or (compressed v ++ x) 0 0
compressed_first v x h =
    elim (cases_lt v 0x80) [
      | inl lt ↦ rw (lt-ltb v 0x80 lt) h
      | inr le ↦
          elim (cases_lt v 0x4000) [
            | inl lt ↦ rw (le-ltb v 0x80 le, lt-ltb v 0x4000 lt) (omega arith)
            | inr ge ↦ rw (le-ltb v 0x80 le, le-ltb v 0x4000 ge) (omega arith)
          ]
    ]

filled_first : (text x : List ℕ) → 0 < length text → AllByRecursion (λ byte. 0 < byte) text → 0 < get_or ((text ++ 0 ∷ []) ++ x) 0 0
filled_first [] x some h = absurd (omega (arith, some))
filled_first (byte ∷ text) x some h = h.0

entry_first : (form : Form) (text more : List ℕ) → IsHeapText form text → 0 < get_or (heap_entry form text ++ more) 0 0
entry_first strings_heap text more h = filled_first text more h.0 h.2
entry_first blob_heap text more h =
    subst (λ (x : List ℕ). 0 < get_or x 0 0) (sym (append_assoc (compressed (length text)) text more)) (compressed_first (length text) (text ++ more) h.0)
entry_first user_strings_heap text more h =
    let body : List ℕ = units_bytes text ++ special_mark text ∷ [] in
    subst (λ (x : List ℕ). 0 < get_or x 0 0) (sym (append_assoc (compressed (2 * length text + 1)) body more)) (compressed_first (2 * length text + 1) (body ++ more) (omega arith))

zeros_none : (form : Form) (n : ℕ) → BeginsNone form (replicate n 0)
zeros_none form n text more h e = omega (arith, entry_first form text more h, ap (λ (x : List ℕ). get_or x 0 0) e, zeros_first n)

pub form_one : (form : Form) (stream : List ℕ) (a b : List (List ℕ)) → HasForm form stream a → HasForm form stream b → a ≡ b
form_one form stream a b h k =
    let entry : List ℕ → List ℕ = heap_entry form in
    let x : ℕ = padding (length (heap_bytes entry a)) in
    let y : ℕ = padding (length (heap_bytes entry b)) in
    let same : flat_map entry a ++ replicate x 0 ≡ flat_map entry b ++ replicate y 0 = ap (drop 1) (sym h.bytes ∙ k.bytes) in
    (texts_one form a b (replicate x 0) (replicate y 0) h.each k.each (zeros_none form x) (zeros_none form y) same).0

-- zeros up to a multiple of four end a stream
zeros_fit : (n : ℕ) → AllByRecursion FitsField (zeros n)
zeros_fit zero = tt
zeros_fit (suc n) = (omega arith, zeros_fit n)

pub padded_ends : (at : ℕ) (heap stream : List ℕ) → stream ≡ padded heap → end_fault at (length heap) stream ≡ None
padded_ends at heap stream is =
    let n : ℕ = padding (length heap) in
    let place : ℕ = at + length heap in
    let long : length heap ≤ length stream = omega (arith, ap length is, length-append heap (replicate n 0)) in
    let rest : drop (length heap) stream ≡ replicate n 0 = ap (drop (length heap)) is ∙ drop_at heap (replicate n 0) (length heap) refl in
    let right : fault_of place (zeros n) (replicate n 0) ≡ None = bytes_of-no_fault place (zeros n) (replicate n 0) [] (zeros_fit n) (sym (append-nil (replicate n 0)) ∙ ap (λ (x : List ℕ). x ++ []) (sym (bytes_of-zeros n))) in
    rw (le-ltb (length stream) (length heap) long, rest, right, length-replicate {A = ℕ} n 0, le-ltb n n (omega arith)) refl

form_right : (form : Form) (at : ℕ) (stream : List ℕ) (fault : TableFault) → HasSomeForm form stream → FormFault form at stream fault → ⊥
form_right form at stream fault (texts, h) (inl (denied, f)) = denied (flat_map (heap_entry form) texts ++ replicate (padding (length (heap_bytes (heap_entry form) texts))) 0, h.bytes)
form_right form at stream fault (texts, h) (inr (others, rest, entries, f)) =
    let entry : List ℕ → List ℕ = heap_entry form in
    let n : ℕ = padding (length (heap_bytes entry texts)) in
    let joined : flat_map entry others ++ rest ≡ flat_map entry texts ++ replicate n 0 = ap (drop 1) (sym entries.parts ∙ h.bytes) in
    let same = texts_one form others texts rest (replicate n 0) entries.each h.each entries.last (zeros_none form n) joined in
    let whole : stream ≡ padded (heap_bytes entry others) = h.bytes ∙ ap (λ (x : List (List ℕ)). padded (heap_bytes entry x)) (sym same.0) in
    let none : end_fault at (length (heap_bytes entry others)) stream ≡ None = padded_ends at (heap_bytes entry others) stream whole in
    let no : None ≡ Some fault = sym none ∙ f in
    absurd cc

no_form_fault : (lengths : StreamLengths) (s : Streams) (fault : TableFault) → AreFormed s → FormsFault lengths s fault → ⊥
no_form_fault lengths s fault h (inl k) = form_right strings_heap _ s.strings fault h.strings k
no_form_fault lengths s fault h (inr (first, inl k)) = form_right user_strings_heap _ s.user_strings fault h.user_strings k
no_form_fault lengths s fault h (inr (first, inr (second, k))) = form_right blob_heap _ s.blobs fault h.blobs k

-- ---- the order of rows and the signatures

no_order_fault : (m r : Module) (fault : TableFault) → SameRows m r → IsSortedModule m → OrderFault r fault → ⊥
no_order_fault m r fault e h (inl (denied, f)) = denied (subst (IsNonDecreasingBy (λ x. x.class.0)) e.interface_impls h.interface_impls)
no_order_fault m r fault e h (inr (a, inl (denied, f))) = denied (subst (IsNonDecreasingBy (λ x. constant_code x.parent)) e.constants h.constants)
no_order_fault m r fault e h (inr (a, inr (b, inl (denied, f)))) = denied (subst (IsNonDecreasingBy (λ x. semantics_code x.association)) e.method_semantics h.method_semantics)
no_order_fault m r fault e h (inr (a, inr (b, inr (c, inl (denied, f))))) = denied (subst (IsNonDecreasingBy (λ x. x.class.0)) e.method_impls h.method_impls)
no_order_fault m r fault e h (inr (a, inr (b, inr (c, inr (d, inl (denied, f)))))) = denied (subst (IsSorted generic_param_cmp) e.generic_params h.generic_params)
no_order_fault m r fault e h (inr (a, inr (b, inr (c, inr (d, inr (g, inl (denied, f))))))) = denied (subst (IsNonDecreasingBy (λ x. x.owner.0)) e.generic_param_constraints h.generic_param_constraints)
no_order_fault m r fault e h (inr (a, inr (b, inr (c, inr (d, inr (g, inr (k, denied))))))) = denied

no_signature_fault : (at : ℕ) (texts all : List (List ℕ)) (fault : TableFault) → AllByRecursion IsSignature all → SignatureFault at texts all fault → ⊥
no_signature_fault at texts [] fault h k = k
no_signature_fault at texts (text ∷ all) fault h (inl (n, bad, f)) = bad.none h.0
no_signature_fault at texts (text ∷ all) fault h (inr (is, k)) = no_signature_fault at texts all fault h.1 k

-- ---- all together

none_found : (r : Option TableFault) (fault : TableFault) → r ≡ None → r ≡ Some fault → ⊥
none_found r fault e f = let no : None ≡ Some fault = sym e ∙ f in absurd cc

module _ (lengths : StreamLengths) (s : Streams) (m r : Module) (h : HasRows lengths s m) (k : HasRows lengths s r) where
  pub same_columns : all_cells m ≡ all_cells r
  same_columns = rows_one s.strings s.blobs _ [] (all_cells m) (all_cells r) h.rows k.rows

  pub rows_are_same : SameRows m r
  rows_are_same = same_rows m r (λ table. h.counts table ∙ sym (k.counts table)) same_columns

  no_content_fault : (fault : TableFault) → heaps_fault lengths s (all_cells m) ≡ None → IsSortedModule m → AllByRecursion IsSignature (flat_map signature_of (all_cells m)) → ContentFault lengths s r fault → ⊥
  no_content_fault fault used sorted signed (inl f) = none_found (heaps_fault lengths s (all_cells m)) fault used (ap (heaps_fault lengths s) same_columns ∙ f)
  no_content_fault fault used sorted signed (inr (none, inl f)) = no_order_fault m r fault rows_are_same sorted f
  no_content_fault fault used sorted signed (inr (none, inr (order, f))) =
      no_signature_fault (blobs_place lengths) (blobs_of (all_cells r)) (flat_map signature_of (all_cells r)) fault (subst (λ (x : List Cell). AllByRecursion IsSignature (flat_map signature_of x)) same_columns signed) f

pub no_fault : (m : Module) (bytes : List ℕ) (fault : TableFault) → IsRead m bytes → IsFirstFault bytes fault → ⊥
no_fault m bytes fault h (inl e) = none_found (start_fault bytes) fault h.start e
no_fault m bytes fault h (inr (start, inl f)) = no_form_fault (lengths_in bytes) (streams_in (lengths_in bytes) bytes) fault h.formed f
no_fault m bytes fault h (inr (start, inr (formed, inl f))) =
    let s = streams_in (lengths_in bytes) bytes in
    no_row_fault s.strings s.blobs _ [] (all_cells m) fault h.rows.rows f
no_fault m bytes fault h (inr (start, inr (formed, inr (r, k, f)))) =
    no_content_fault (lengths_in bytes) (streams_in (lengths_in bytes) bytes) m r h.rows k fault h.used h.sorted h.signatures f

pub one_module : (m r : Module) (bytes : List ℕ) → IsRead m bytes → IsRead r bytes → m ≡ r
one_module m r bytes h k =
    let s = streams_in (lengths_in bytes) bytes in
    let same = rows_are_same (lengths_in bytes) s m r h.rows k.rows in
    let texts : m.texts ≡ r.texts = form_one user_strings_heap s.user_strings m.texts r.texts h.texts k.texts in
    let bodies : m.bodies ≡ r.bodies = h.no_bodies ∙ sym k.no_bodies in
    let entry : m.entry ≡ r.entry = h.no_entry ∙ sym k.no_entry in
    λ i. record {
      modules = same.modules i;
      type_refs = same.type_refs i;
      type_defs = same.type_defs i;
      fields = same.fields i;
      methods = same.methods i;
      params = same.params i;
      interface_impls = same.interface_impls i;
      member_refs = same.member_refs i;
      constants = same.constants i;
      stand_alone_sigs = same.stand_alone_sigs i;
      property_maps = same.property_maps i;
      properties = same.properties i;
      method_semantics = same.method_semantics i;
      method_impls = same.method_impls i;
      type_specs = same.type_specs i;
      assemblies = same.assemblies i;
      assembly_refs = same.assembly_refs i;
      generic_params = same.generic_params i;
      method_specs = same.method_specs i;
      generic_param_constraints = same.generic_param_constraints i;
      bodies = bodies i;
      texts = texts i;
      entry = entry i;
    }
