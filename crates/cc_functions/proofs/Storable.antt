-- A file can hold the module of a program of functions.
use Rattle.std.proofs.Common.{◌≡◌, ℕ, zero, suc, ◌+◌, ◌^◌, ◌<◌, ◌≤◌, Bool, true, false, Option, Some, None, List, [], ◌∷◌, ◌++◌, length, refl, sym, subst, arith}
use borrow.Author.Tests.{ltb-true}
use Rattle.std.specs.Prelude.{codes, nat_lt, IsUtf8, if◌then◌else◌}
use Rattle.std.specs.List.{AllByRecursion, flat_map, list_all}
use Rattle.cc_cil.specs.Bodies as body
use Rattle.cc_module.specs.declared.element.Element.{Element}
use Rattle.cc_module.specs.declared.element.Element.TheVariants as element
use Rattle.cc_module.specs.declared.signature.Signature.{Signature}
use Rattle.cc_module.specs.declared.signature.TypeSignature.{TypeSignature}
use Rattle.cc_module.specs.declared.rows.MethodDefRow.{MethodDefRow}
use Rattle.cc_module.specs.declared.rows.StandAloneSigRow.{StandAloneSigRow}
use Rattle.cc_module.specs.declared.table.Table.{Table}
use Rattle.cc_module.specs.declared.table.Table.TheVariants as table
use Rattle.cc_module.specs.Rows.{Cell, all_cells, row_count, method_def_cells, member_ref_cells, stand_alone_sig_cells}
use Rattle.cc_module.specs.Signatures.{HasSpelling, IsType, AreTypes, IsSignature, signature_bytes}
use Rattle.cc_module.specs.Storable.{FIRST_BODY, FitsCell, IsStorable, IsSortedModule, body_places}
use Rattle.cc_emit.specs.Program.{int, void, strings, start_signature, static_method}
use Rattle.cc_emit.proofs.Names.{is_ascii, has_no_zero, ascii, positive}
use Rattle.cc_functions.specs.declared.function.Function.{Function}
use Rattle.cc_functions.specs.Fits.{FitsFunction, HasLocals, locals_size, size_of, total_size}
use Rattle.cc_functions.specs.Program.{bodies, console_members, local_row, local_rows, member_row, method_row, method_rows, module_of, printing_row, rows_at, start}
use Rattle.cc_functions.proofs.Bodies.{places}
use Rattle.cc_functions.proofs.Cells.{first, second, third, of_methods, of_locals, cells_of, cells_are, image_low}

-- ---- what holds of each

pub join : {A : Type 0} (P : A → Type 0) (a b : List A) → AllByRecursion P a → AllByRecursion P b → AllByRecursion P (a ++ b)
join P [] b h k = k
join P (x ∷ a) b h k = (h.0, join P a b h.1 k)

-- of each column of each row
pub columns_of : {R : Type 0} (P : Cell → Type 0) (cells : R → List Cell) (rows : List R) → AllByRecursion (λ r. AllByRecursion P (cells r)) rows → AllByRecursion P (flat_map cells rows)
columns_of P cells [] h = tt
columns_of P cells (r ∷ rows) h = join P (cells r) (flat_map cells rows) h.0 (columns_of P cells rows h.1)

pub record Small (f : Function) : Type 0 where
  pub fits : FitsFunction f
  pub size : size_of f < 2 ^ 29

pub small_each : (methods : List Function) → AllByRecursion FitsFunction methods → total_size methods < 2 ^ 29 → AllByRecursion Small methods
small_each [] h few = tt
small_each (f ∷ methods) h few = (record { fits = h.0; size = omega arith }, small_each methods h.1 (omega arith))

-- ---- names and signatures

name : (text : List ℕ) → is_ascii text ≡ true → has_no_zero text ≡ true → IsUtf8 text × AllByRecursion (λ byte. 0 < byte) text
name text is filled = (ascii text is, positive text filled)

pub alone_is : (e : Element) → (whole : IsType (record { elements = e ∷ [] })) → AreTypes (record { elements = e ∷ [] } ∷ [])
alone_is e whole = record { few = ltb-true 1 (2 ^ 29) refl; each = (whole, tt) }

int_is : IsType int
int_is = record { whole = refl; fits = (tt, tt) }

pub void_is : IsType void
void_is = record { whole = refl; fits = (tt, tt) }

strings_is : IsType strings
strings_is = record { whole = refl; fits = (tt, (tt, tt)) }

pub none_are : AreTypes []
none_are = record { few = ltb-true 0 (2 ^ 29) refl; each = tt }

pub start_spelled : HasSpelling start_signature
start_spelled = (tt, int_is, record { few = ltb-true 1 (2 ^ 29) refl; each = (strings_is, tt) })

pub start_fits : (main : ℕ) → FitsFunction (start main)
start_fits main = record { text = ascii (codes "<start>") refl; filled = positive (codes "<start>") refl; signature = start_spelled; locals = tt }

blob_of : (s : Signature) → HasSpelling s → length (signature_bytes s) < 2 ^ 29 → IsSignature (signature_bytes s) × (length (signature_bytes s) < 2 ^ 29)
blob_of s spelled short = ((s, spelled, refl), short)

-- ---- columns of indexes whose width the number of methods decides

one_fits : (few : Bool) → 1 < 256 ^ (if few then 2 else 4)
one_fits true = ltb-true 1 (256 ^ 2) refl
one_fits false = ltb-true 1 (256 ^ 4) refl

nine_fits : (few : Bool) → 9 < 256 ^ (if few then 2 else 4)
nine_fits true = ltb-true 9 (256 ^ 2) refl
nine_fits false = ltb-true 9 (256 ^ 4) refl

-- ---- columns

module _ (all : List Function) (entry : ℕ) where
  abbrev counts : Table → ℕ
  counts = row_count (module_of all entry)

  abbrev Fit : Cell → Type 0
  Fit = FitsCell counts

  method_fits : (place : ℕ) (f : Function) → Small f → AllByRecursion Fit (method_def_cells (method_row place f))
  method_fits place f small = (tt, (tt, (tt, ((small.fits.text, small.fits.filled), (blob_of f.signature small.fits.signature (omega (arith, small.size)), (ltb-true 1 (256 ^ 2) refl, tt))))))

  methods_fit : (places : List ℕ) (methods : List Function) → AllByRecursion Small methods → AllByRecursion (λ r. AllByRecursion Fit (method_def_cells r)) (rows_at places methods)
  methods_fit places [] h = tt
  methods_fit [] (f ∷ methods) h = tt
  methods_fit (place ∷ places) (f ∷ methods) h = (method_fits place f h.0, methods_fit places methods h.1)

  local_fits : (o : Option Signature) → HasLocals o → locals_size o < 2 ^ 29 → AllByRecursion (λ r. AllByRecursion Fit (stand_alone_sig_cells r)) (local_row o)
  local_fits None h short = tt
  local_fits (Some s) h short = ((blob_of s h short, tt), tt)

  locals_fit : (methods : List Function) → AllByRecursion Small methods → AllByRecursion (λ r. AllByRecursion Fit (stand_alone_sig_cells r)) (local_rows methods)
  locals_fit [] h = tt
  locals_fit (f ∷ methods) h = join (λ r. AllByRecursion Fit (stand_alone_sig_cells r)) (local_row f.locals) (local_rows methods) (local_fits f.locals h.0.fits.locals (omega (arith, h.0.size))) (locals_fit methods h.1)

  member_fits : (text : List ℕ) (parameters : List TypeSignature) → is_ascii text ≡ true → has_no_zero text ≡ true → AreTypes parameters → length (signature_bytes (static_method void parameters)) < 2 ^ 29
      → AllByRecursion Fit (member_ref_cells (member_row text parameters))
  member_fits text parameters is filled are short = (nine_fits (list_all (λ t. nat_lt (counts t) (2 ^ 13)) (table.TypeDef ∷ table.TypeRef ∷ table.MethodDef ∷ table.TypeSpec ∷ [])), (name text is filled, (blob_of (static_method void parameters) (tt, void_is, are) short, tt)))

  printing_fits : (text : List ℕ) (e : Element) → is_ascii text ≡ true → has_no_zero text ≡ true → IsType (record { elements = e ∷ [] }) → length (signature_bytes (static_method void (record { elements = e ∷ [] } ∷ []))) < 2 ^ 29
      → AllByRecursion Fit (member_ref_cells (printing_row text e))
  printing_fits text e is filled whole short = member_fits text (record { elements = e ∷ [] } ∷ []) is filled (alone_is e whole) short

  write_fits : (e : Element) → IsType (record { elements = e ∷ [] }) → length (signature_bytes (static_method void (record { elements = e ∷ [] } ∷ []))) < 2 ^ 29 → AllByRecursion Fit (member_ref_cells (printing_row (codes "Write") e))
  write_fits e whole short = printing_fits (codes "Write") e refl refl whole short

  line_fits : (e : Element) → IsType (record { elements = e ∷ [] }) → length (signature_bytes (static_method void (record { elements = e ∷ [] } ∷ []))) < 2 ^ 29 → AllByRecursion Fit (member_ref_cells (printing_row (codes "WriteLine") e))
  line_fits e whole short = printing_fits (codes "WriteLine") e refl refl whole short

  members_fit : AllByRecursion (λ r. AllByRecursion Fit (member_ref_cells r)) console_members
  members_fit =
      let short : 4 < 2 ^ 29 = ltb-true 4 (2 ^ 29) refl in (
        write_fits element.Boolean (record { whole = refl; fits = (tt, tt) }) short,
        (
          write_fits element.Char (record { whole = refl; fits = (tt, tt) }) short,
          (
            write_fits element.I4 (record { whole = refl; fits = (tt, tt) }) short,
            (
              write_fits element.U4 (record { whole = refl; fits = (tt, tt) }) short,
              (
                write_fits element.I8 (record { whole = refl; fits = (tt, tt) }) short,
                (
                  write_fits element.U8 (record { whole = refl; fits = (tt, tt) }) short,
                  (
                    line_fits element.Boolean (record { whole = refl; fits = (tt, tt) }) short,
                    (
                      line_fits element.Char (record { whole = refl; fits = (tt, tt) }) short,
                      (
                        line_fits element.I4 (record { whole = refl; fits = (tt, tt) }) short,
                        (
                          line_fits element.U4 (record { whole = refl; fits = (tt, tt) }) short,
                          (
                            line_fits element.I8 (record { whole = refl; fits = (tt, tt) }) short,
                            (
                              line_fits element.U8 (record { whole = refl; fits = (tt, tt) }) short,
                              (member_fits (codes "WriteLine") [] refl refl none_are (ltb-true 3 (2 ^ 29) refl), tt),
                            ),
                          ),
                        ),
                      ),
                    ),
                  ),
                ),
              ),
            ),
          ),
        ),
      )

  first_fits : AllByRecursion Fit first
  first_fits = (
    tt,
    (
      name (codes "program.exe") refl refl,
      (
        tt,
        (
          tt,
          (
            tt,
            (
              ltb-true 6 65536 refl,
              (
                name (codes "Console") refl refl,
                (
                  name (codes "System") refl refl,
                  (
                    tt,
                    (
                      name (codes "<Module>") refl refl,
                      (
                        name [] refl refl,
                        (
                          ltb-true 0 65536 refl,
                          (
                            ltb-true 1 65536 refl,
                            (one_fits (nat_lt (length (method_rows all)) 0x10000), tt),
                          ),
                        ),
                      ),
                    ),
                  ),
                ),
              ),
            ),
          ),
        ),
      ),
    ),
  )

  third_fits : AllByRecursion Fit third
  third_fits = (tt, (tt, (tt, (tt, (tt, (tt, (ltb-true 0 (2 ^ 29) refl, (name (codes "program") refl refl, (name [] refl refl, (tt, (tt, (tt, (tt, (tt, (ltb-true 8 (2 ^ 29) refl, (name (codes "mscorlib") refl refl, (name [] refl refl, (ltb-true 0 (2 ^ 29) refl, tt))))))))))))))))))

  cells_fit : AllByRecursion Small all → AllByRecursion Fit (cells_of all)
  cells_fit h =
      let a = of_methods (method_rows all) in
      let b = of_locals (local_rows all) in
      let methods : AllByRecursion Fit a = columns_of Fit method_def_cells (method_rows all) (methods_fit (body_places FIRST_BODY (bodies 1 all)) all h) in
      let members : AllByRecursion Fit second = columns_of Fit member_ref_cells console_members members_fit in
      let locals : AllByRecursion Fit b = columns_of Fit stand_alone_sig_cells (local_rows all) (locals_fit all h) in
      join Fit first (a ++ (second ++ (b ++ third))) first_fits (join Fit a (second ++ (b ++ third)) methods (join Fit second (b ++ third) members (join Fit b third locals third_fits)))

  columns : AllByRecursion Small all → AllByRecursion Fit (all_cells (module_of all entry))
  columns h = subst (λ (cells : List Cell). AllByRecursion Fit cells) (sym (cells_are all entry)) (cells_fit h)

  -- ---- the rest

  sorted : IsSortedModule (module_of all entry)
  sorted = record {
    interface_impls = λ i j d ordered within. let none : j < 0 = within in absurd (omega arith);
    constants = λ i j d ordered within. let none : j < 0 = within in absurd (omega arith);
    method_semantics = λ i j d ordered within. let none : j < 0 = within in absurd (omega arith);
    method_impls = λ i j d ordered within. let none : j < 0 = within in absurd (omega arith);
    generic_params = λ k d low high. let none : k + 1 < 0 = high in absurd (omega arith);
    generic_param_constraints = λ i j d ordered within. let none : j < 0 = within in absurd (omega arith);
  }

  have_spelling : (row : ℕ) (methods : List Function) → AllByRecursion Small methods → AllByRecursion body.HasSpelling (bodies row methods)
  have_spelling row [] h = tt
  have_spelling row (f ∷ methods) h = (record { code = omega (arith, h.0.size); clauses = ltb-true 0 699051 refl; classes = tt }, have_spelling (length (local_row f.locals) + row) methods h.1)

  pub storable : AllByRecursion FitsFunction all → total_size all ≤ 268431442 → IsStorable (module_of all entry)
  storable each few =
      let small = small_each all each (omega arith) in
      record {
        columns = columns small;
        sorted = sorted;
        bodies = have_spelling 1 all small;
        places = places all FIRST_BODY 1 (ltb-true 0 FIRST_BODY refl);
        user_strings = ltb-true 4 (2 ^ 24) refl;
        size = omega (arith, image_low all entry);
      }
