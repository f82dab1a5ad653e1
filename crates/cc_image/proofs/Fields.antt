-- The fields of the headers: what is written is of the layout, and the layout's bytes tell the sizes.
use Rattle.std.proofs.Common.{◌≡◌, ℕ, zero, suc, ◌+◌, ◌*◌, ◌/◌, ◌^◌, ◌<◌, ◌≤◌, Bool, true, false, ltb, eqb, List, [], ◌∷◌, ◌++◌, length, take, drop, map, Option, Some, None, refl, sym, ap, subst, ◌∙◌, append_assoc, ◌⊎◌, inl, inr, arith}
use Rattle.std.specs.Prelude.{IfSome, unwrap_or, slice_get, ◌&&◌}
use Rattle.std.specs.List.{AllByRecursion, flat_map}
use Rattle.std.proofs.lemmas.Bool.{cases_lt, lt-ltb, le-ltb, ltb-true, eqb-true, eq-eqb}
use Rattle.std.proofs.Math.Seq.{take-append-add}
use Rattle.std.proofs.lemmas.List.{length-append, length-take, take-append-drop, drop_at, drop-drop, drop_all}
use Rattle.cc_cil.proofs.Sound.{which}
use Rattle.cc_layout.specs.declared.field.Field.{Field}
use Rattle.cc_layout.specs.Numbers.{little_endian, AreBytes}
use Rattle.cc_layout.specs.Layout.{number, run, HasWidth, FitsField, IsField, Spells, width_of, fault_of, peeked}
use Rattle.cc_layout.proofs.Numbers.{length-little_endian, value_of-little_endian, AreBytes-take}
use Rattle.cc_layout.proofs.Laws.{Spells-append, Spells-parts, peeked-stands, peeked-below, no_fault-spells, spells-no_fault}
use Rattle.cc_module.specs.Storable.{file_aligned}
use Rattle.cc_image.specs.declared.sizes.Sizes.{Sizes}
use Rattle.cc_image.specs.declared.layout.Item.{Item}
use Rattle.cc_image.specs.declared.layout.Width.{Width}
use Rattle.cc_image.specs.declared.layout.Width.TheVariants.{U8, U16, U32}
use Rattle.cc_image.specs.declared.layout.Value.{Value}
use Rattle.cc_image.specs.declared.layout.Value.TheVariants.{Is, Ignored, SectionSize, SectionSizeAgain, UsedSize, ImageSize, MetadataPlace, MetadataSize, Entry}
use Rattle.cc_image.specs.declared.layout.TheConstants.{DOS, COFF, OPTIONAL, DIRECTORIES, CLI_DIRECTORY, SECTION_NAME, SECTION_HEADER, ZEROS, CLI, CLI_DIRECTORIES}
use Rattle.cc_image.specs.Headers.{HEADERS, NO_NUMBER, first_size, size_again, loaded_size, value_in, written_for, bytes_in, field_of, item_bytes, header_layout, cli_layout, fields_bytes, cli_bytes, sizes_in}

-- ---- widths

width_fits : (w : Width) → (1 ≤ bytes_in w) × (bytes_in w ≤ 8)
width_fits U8 = (omega arith, omega arith)
width_fits U16 = (omega arith, omega arith)
width_fits U32 = (omega arith, omega arith)

items_widths : (s : Sizes) (items : List Item) → AllByRecursion HasWidth (map (field_of s) items)
items_widths s [] = tt
items_widths s (item ∷ items) = (width_fits item.0, items_widths s items)

run_widths : (bytes : List ℕ) → AllByRecursion HasWidth (run bytes)
run_widths [] = tt
run_widths (byte ∷ bytes) = ((omega arith, omega arith), run_widths bytes)

record HaveWidths (fields : List Field) : Type 0 where
  pub each : AllByRecursion HasWidth fields

both_append : (a b : List Field) → AllByRecursion HasWidth a → AllByRecursion HasWidth b → AllByRecursion HasWidth (a ++ b)
both_append [] b h k = k
both_append (f ∷ a) b h k = (h.0, both_append a b h.1 k)

widths-append : (a b : List Field) → HaveWidths a → HaveWidths b → HaveWidths (a ++ b)
widths-append a b h k = record { each = both_append a b h.each k.each }

of_items : (s : Sizes) (items : List Item) → HaveWidths (map (field_of s) items)
of_items s items = record { each = items_widths s items }

of_run : (bytes : List ℕ) → HaveWidths (run bytes)
of_run bytes = record { each = run_widths bytes }

header_fields : (s : Sizes) → HaveWidths (header_layout s)
unfolding header_layout
header_fields s =
    widths-append _ _ (of_run DOS)
    (widths-append _ _ (of_items s COFF)
    (widths-append _ _ (of_items s OPTIONAL)
    (widths-append _ _ (of_items s DIRECTORIES)
    (widths-append _ _ (of_items s CLI_DIRECTORY)
    (widths-append _ _ (of_run SECTION_NAME)
    (widths-append _ _ (of_items s SECTION_HEADER) (of_run ZEROS)))))))

pub header_widths : (s : Sizes) → AllByRecursion HasWidth (header_layout s)
header_widths s = (header_fields s).each

cli_fields : (s : Sizes) → HaveWidths (cli_layout s)
unfolding cli_layout
cli_fields s = widths-append _ _ (of_items s CLI) (of_items s CLI_DIRECTORIES)

pub cli_widths : (s : Sizes) → AllByRecursion HasWidth (cli_layout s)
cli_widths s = (cli_fields s).each

-- ---- sizes that headers can tell

pub record IsProper (s : Sizes) : Type 0 where
  pub section : HEADERS + s.section < 0x10000000
  pub rounded : s.section ≡ file_aligned s.used
  pub used : s.used < 2 ^ 32
  pub metadata_place : s.metadata_place < 2 ^ 32
  pub metadata_size : s.metadata_size < 2 ^ 32
  pub entry : s.entry < 2 ^ 32

pub first_size_is : (section : ℕ) → HEADERS + section < 0x10000000 → first_size section ≡ section
first_size_is section h = rw (lt-ltb (HEADERS + section) 0x10000000 h) refl

pub size_again_is : (section used : ℕ) → section ≡ file_aligned used → size_again section used ≡ section
size_again_is section used h = rw (eq-eqb section (file_aligned used) h) refl

-- ---- what is written is of the layout

-- the text, and whatever follows it
pub record Stands (fields : List Field) (text : List ℕ) : Type 0 where
  pub spells : (rest : List ℕ) → Spells fields (text ++ rest) rest

pub stands-append : (a b : List Field) (x y : List ℕ) → Stands a x → Stands b y → Stands (a ++ b) (x ++ y)
stands-append a b x y h k = record {
  spells = λ rest. Spells-append a b ((x ++ y) ++ rest) (y ++ rest) rest (subst (λ (t : List ℕ). Spells a t (y ++ rest)) (sym (append_assoc x y rest)) (h.spells (y ++ rest))) (k.spells rest);
}

run_spelled : (bytes rest : List ℕ) → Spells (run bytes) (bytes ++ rest) rest
run_spelled [] rest = refl
run_spelled (byte ∷ bytes) rest = (byte ∷ [], bytes ++ rest, record { width = refl; value = omega arith }, refl, run_spelled bytes rest)

run_stands : (bytes : List ℕ) → Stands (run bytes) bytes
run_stands bytes = record { spells = run_spelled bytes }

field_spelled : (width : ℕ) (value : Option ℕ) (other : ℕ) → IfSome value (λ v. v < 256 ^ width) → IsField (record { width = width; value = value }) (little_endian width (unwrap_or value other))
field_spelled width None other h = record { width = length-little_endian width other; value = tt }
field_spelled width (Some v) other h = record { width = length-little_endian width v; value = value_of-little_endian width v h }

items_spelled : (s : Sizes) (items : List Item) (rest : List ℕ) → AllByRecursion FitsField (map (field_of s) items) → Spells (map (field_of s) items) (flat_map (item_bytes s) items ++ rest) rest
items_spelled s [] rest h = refl
items_spelled s (item ∷ items) rest h = (
  item_bytes s item,
  flat_map (item_bytes s) items ++ rest,
  field_spelled (bytes_in item.0) (value_in s item.1) (written_for item.1) h.0,
  append_assoc (item_bytes s item) (flat_map (item_bytes s) items) rest,
  items_spelled s items rest h.1,
)

-- whether each number that is given fits its field, and each size has four bytes
abbrev value_fits : Width → Value → Bool
value_fits w (Is n) = ltb n (256 ^ bytes_in w)
value_fits w (Ignored n) = true
value_fits w v = eqb (bytes_in w) 4

abbrev each_fits : List Item → Bool
each_fits [] = true
each_fits (item ∷ items) = value_fits item.0 item.1 && each_fits items

both : (a b : Bool) → a && b ≡ true → (a ≡ true) × (b ≡ true)
both true true e = (refl, refl)
both true false e = (refl, e)
both false b e = absurd cc

four : (s : Sizes) (w : Width) (v x : ℕ) → eqb (bytes_in w) 4 ≡ true → v ≡ x → x < 2 ^ 32 → v < 256 ^ bytes_in w
four s w v x e is h = let k : bytes_in w ≡ 4 = eqb-true (bytes_in w) 4 e in rw k (omega (arith, is, h))

fits : (s : Sizes) (w : Width) (v : Value) → IsProper s → value_fits w v ≡ true → IfSome (value_in s v) (λ x. x < 256 ^ bytes_in w)
fits s w (Is n) p e = ltb-true n _ e
fits s w (Ignored n) p e = tt
fits s w SectionSize p e = four s w _ s.section e (first_size_is s.section p.section) (omega (arith, p.section))
fits s w SectionSizeAgain p e = four s w _ s.section e (size_again_is s.section s.used p.rounded) (omega (arith, p.section))
fits s w UsedSize p e = four s w _ s.used e refl p.used
fits s w ImageSize p e = four s w _ (loaded_size s.section) e refl (omega (arith, p.section))
fits s w MetadataPlace p e = four s w _ s.metadata_place e refl p.metadata_place
fits s w MetadataSize p e = four s w _ s.metadata_size e refl p.metadata_size
fits s w Entry p e = four s w _ s.entry e refl p.entry

items_fit : (s : Sizes) (items : List Item) → IsProper s → each_fits items ≡ true → AllByRecursion FitsField (map (field_of s) items)
items_fit s [] p e = tt
items_fit s (item ∷ items) p e = let h = both (value_fits item.0 item.1) (each_fits items) e in (fits s item.0 item.1 p h.0, items_fit s items p h.1)

items_stand : (s : Sizes) (items : List Item) → IsProper s → each_fits items ≡ true → Stands (map (field_of s) items) (flat_map (item_bytes s) items)
items_stand s items p e = record { spells = λ rest. items_spelled s items rest (items_fit s items p e) }

fields_stand : (s : Sizes) → IsProper s → Stands (header_layout s) (fields_bytes s)
unfolding header_layout fields_bytes
fields_stand s p =
    stands-append _ _ _ _ (run_stands DOS)
    (stands-append _ _ _ _ (items_stand s COFF p refl)
    (stands-append _ _ _ _ (items_stand s OPTIONAL p refl)
    (stands-append _ _ _ _ (items_stand s DIRECTORIES p refl)
    (stands-append _ _ _ _ (items_stand s CLI_DIRECTORY p refl)
    (stands-append _ _ _ _ (run_stands SECTION_NAME)
    (stands-append _ _ _ _ (items_stand s SECTION_HEADER p refl) (run_stands ZEROS)))))))

cli_stands : (s : Sizes) → IsProper s → Stands (cli_layout s) (cli_bytes s)
unfolding cli_layout cli_bytes
cli_stands s p = stands-append _ _ _ _ (items_stand s CLI p refl) (items_stand s CLI_DIRECTORIES p refl)

pub headers_stand : (s : Sizes) → IsProper s → Stands (header_layout s ++ cli_layout s) (fields_bytes s ++ cli_bytes s)
headers_stand s p = stands-append (header_layout s) (cli_layout s) (fields_bytes s) (cli_bytes s) (fields_stand s p) (cli_stands s p)

-- ---- the sizes are told where they first stand

pub recovered : (s : Sizes) (bytes rest : List ℕ) → IsProper s → Spells (header_layout s ++ cli_layout s) bytes rest → sizes_in bytes ≡ s
unfolding header_layout cli_layout sizes_in
recovered s bytes rest p h =
    let fields = header_layout s ++ cli_layout s in
    let section : peeked 4 156 bytes ≡ s.section = peeked-stands fields bytes rest 142 156 4 (first_size s.section) h refl refl ∙ first_size_is s.section p.section in
    let used : peeked 4 384 bytes ≡ s.used = peeked-stands fields bytes rest 209 384 4 s.used h refl refl in
    let place : peeked 4 520 bytes ≡ s.metadata_place = peeked-stands fields bytes rest 317 520 4 s.metadata_place h refl refl in
    let long : peeked 4 524 bytes ≡ s.metadata_size = peeked-stands fields bytes rest 318 524 4 s.metadata_size h refl refl in
    let entry : peeked 4 532 bytes ≡ s.entry = peeked-stands fields bytes rest 320 532 4 s.entry h refl refl in
    rw (section, used, place, long, entry) refl

first_size_below : (section : ℕ) → first_size section < 2 ^ 32 → HEADERS + section < 0x10000000
first_size_below section h =
    elim (cases_lt (HEADERS + section) 0x10000000) [
      | inl lt ↦ lt
      | inr ge ↦ absurd (let g = rw (le-ltb (HEADERS + section) 0x10000000 ge) at h in omega (arith, g))
    ]

size_again_below : (section used : ℕ) → size_again section used < 2 ^ 32 → section ≡ file_aligned used
size_again_below section used h =
    elim (which (eqb section (file_aligned used))) [
      | inl same ↦ eqb-true section (file_aligned used) same
      | inr other ↦ absurd (let g = rw other at h in omega (arith, g))
    ]

-- the fields of headers without a fault bound the size of the section, and tie the used size to it
pub bounded : (s : Sizes) (bytes : List ℕ) → AreBytes bytes → fault_of 0 (header_layout s) (take HEADERS bytes) ≡ None → (HEADERS + s.section < 0x10000000) × (s.section ≡ file_aligned s.used)
unfolding header_layout
bounded s bytes each e =
    let front = take HEADERS bytes in
    let front_each : AreBytes front = AreBytes-take HEADERS bytes each in
    let h = no_fault-spells 0 (header_layout s) front e in
    let section : peeked 4 156 front ≡ first_size s.section = peeked-stands (header_layout s) front _ 142 156 4 (first_size s.section) h refl refl in
    let again : peeked 4 392 front ≡ size_again s.section s.used = peeked-stands (header_layout s) front _ 211 392 4 (size_again s.section s.used) h refl refl in
    let section_below : peeked 4 156 front < 2 ^ 32 = peeked-below 4 156 front front_each in
    let again_below : peeked 4 392 front < 2 ^ 32 = peeked-below 4 392 front front_each in
    let fits : first_size s.section < 2 ^ 32 = subst (λ (n : ℕ). n < 2 ^ 32) section section_below in
    let again_fits : size_again s.section s.used < 2 ^ 32 = subst (λ (n : ℕ). n < 2 ^ 32) again again_below in
    (first_size_below s.section fits, size_again_below s.section s.used again_fits)

-- headers without a fault tell proper sizes
pub proper : (bytes : List ℕ) → AreBytes bytes → fault_of 0 (header_layout (sizes_in bytes)) (take HEADERS bytes) ≡ None → IsProper (sizes_in bytes)
unfolding sizes_in
proper bytes each e =
    let h = bounded (sizes_in bytes) bytes each e in
    record {
      section = h.0;
      rounded = h.1;
      used = peeked-below 4 384 bytes each;
      metadata_place = peeked-below 4 520 bytes each;
      metadata_size = peeked-below 4 524 bytes each;
      entry = peeked-below 4 532 bytes each;
    }

-- ---- the front of the bytes, and the whole

spells-more : (fields : List Field) (bytes rest more : List ℕ) → Spells fields bytes rest → Spells fields (bytes ++ more) (rest ++ more)
spells-more [] bytes rest more h = ap (λ (x : List ℕ). x ++ more) h
spells-more (f ∷ fields) bytes rest more (text, others, is, parts, h) = (text, others ++ more, is, ap (λ (x : List ℕ). x ++ more) parts ∙ append_assoc text others more, spells-more fields others rest more h)

spells-front : (fields : List Field) (bytes rest : List ℕ) → Spells fields bytes rest → Spells fields (take (width_of fields) bytes) []
spells-front [] bytes rest h = refl
spells-front (f ∷ fields) bytes rest (text, more, is, parts, h) =
    (text, take (width_of fields) more, is, ap (take (f.width + width_of fields)) parts ∙ ap (λ (n : ℕ). take (n + width_of fields) (text ++ more)) (sym is.width) ∙ take-append-add text more (width_of fields), spells-front fields more rest h)

pub spells-rest : (fields : List Field) (bytes rest : List ℕ) → Spells fields bytes rest → rest ≡ drop (width_of fields) bytes
spells-rest [] bytes rest h = sym h
spells-rest (f ∷ fields) bytes rest (text, more, is, parts, h) =
    spells-rest fields more rest h
    ∙ ap (drop (width_of fields)) (sym (drop_at text more f.width is.width) ∙ ap (drop f.width) (sym parts))
    ∙ drop-drop (width_of fields) f.width bytes

pub spells_length : (fields : List Field) (bytes rest : List ℕ) → Spells fields bytes rest → length bytes ≡ width_of fields + length rest
spells_length [] bytes rest h = let k : length bytes ≡ length rest = ap length h in omega (arith, k)
spells_length (f ∷ fields) bytes rest (text, more, is, parts, h) = let ih = spells_length fields more rest h in omega (arith, ap length parts, length-append text more, is.width, ih)

pub header_wide : (s : Sizes) → width_of (header_layout s) ≡ HEADERS
unfolding header_layout
header_wide s = refl

pub cli_wide : (s : Sizes) → width_of (cli_layout s) ≡ 72
unfolding cli_layout
cli_wide s = refl

-- headers and a CLI header without a fault are of the layouts
pub all_spelled : (s : Sizes) (bytes : List ℕ) → fault_of 0 (header_layout s) (take HEADERS bytes) ≡ None → fault_of HEADERS (cli_layout s) (drop HEADERS bytes) ≡ None
    → Spells (header_layout s ++ cli_layout s) bytes (drop 0x248 bytes)
all_spelled s bytes e f =
    let front = no_fault-spells 0 (header_layout s) (take HEADERS bytes) e in
    let nothing : drop (width_of (header_layout s)) (take HEADERS bytes) ≡ [] = drop_all (width_of (header_layout s)) (take HEADERS bytes) (omega (arith, header_wide s, length-take HEADERS bytes)) in
    let ends : Spells (header_layout s) (take HEADERS bytes) [] = subst (λ (x : List ℕ). Spells (header_layout s) (take HEADERS bytes) x) nothing front in
    let whole : Spells (header_layout s) (take HEADERS bytes ++ drop HEADERS bytes) (drop HEADERS bytes) = spells-more (header_layout s) (take HEADERS bytes) [] (drop HEADERS bytes) ends in
    let here : Spells (header_layout s) bytes (drop HEADERS bytes) = subst (λ (x : List ℕ). Spells (header_layout s) x (drop HEADERS bytes)) (take-append-drop HEADERS bytes) whole in
    let after = no_fault-spells HEADERS (cli_layout s) (drop HEADERS bytes) f in
    let past : drop (width_of (cli_layout s)) (drop HEADERS bytes) ≡ drop 0x248 bytes = drop-drop (width_of (cli_layout s)) HEADERS bytes ∙ ap (λ (x : ℕ). drop x bytes) (ap (λ (x : ℕ). HEADERS + x) (cli_wide s)) in
    Spells-append (header_layout s) (cli_layout s) bytes (drop HEADERS bytes) (drop 0x248 bytes) here (subst (λ (x : List ℕ). Spells (cli_layout s) (drop HEADERS bytes) x) past after)

pub record HasHeaders (s : Sizes) (bytes : List ℕ) : Type 0 where
  pub fields : fault_of 0 (header_layout s) (take HEADERS bytes) ≡ None
  pub cli : fault_of HEADERS (cli_layout s) (drop HEADERS bytes) ≡ None

pub no_header_fault : (s : Sizes) (bytes rest : List ℕ) → Spells (header_layout s ++ cli_layout s) bytes rest → HasHeaders s bytes
no_header_fault s bytes rest h =
    let (middle, front, back) = Spells-parts (header_layout s) (cli_layout s) bytes rest h in
    let first : Spells (header_layout s) (take (width_of (header_layout s)) bytes) [] = spells-front (header_layout s) bytes middle front in
    let here : Spells (header_layout s) (take HEADERS bytes) [] = subst (λ (n : ℕ). Spells (header_layout s) (take n bytes) []) (header_wide s) first in
    let middle_is : middle ≡ drop HEADERS bytes = spells-rest (header_layout s) bytes middle front ∙ ap (λ (n : ℕ). drop n bytes) (header_wide s) in
    record {
      fields = spells-no_fault 0 (header_layout s) (take HEADERS bytes) [] here;
      cli = spells-no_fault HEADERS (cli_layout s) (drop HEADERS bytes) rest (subst (λ (x : List ℕ). Spells (cli_layout s) x rest) middle_is back);
    }

pub all_wide : (s : Sizes) → width_of (header_layout s ++ cli_layout s) ≡ 0x248
unfolding header_layout cli_layout
all_wide s = refl
