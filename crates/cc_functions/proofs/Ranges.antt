-- The numbers of the module of a program of functions are of their types.
use Rattle.std.proofs.Common.{◌≡◌, ℕ, zero, suc, ◌+◌, ◌*◌, ◌^◌, ◌<◌, ◌≤◌, Option, Some, None, List, [], ◌∷◌, ◌++◌, length, refl, sym, subst, arith}
use borrow.Author.Tests.{ltb-true}
use Rattle.std.specs.Prelude.{codes}
use Rattle.std.specs.List.{AllByRecursion}
use Rattle.cc_layout.specs.Numbers.{AreBytes}
use Rattle.cc_cil.specs.Bodies as body
use Rattle.cc_cil.specs.Bodies.{body_bytes}
use Rattle.cc_module.specs.declared.element.Element.{Element}
use Rattle.cc_module.specs.declared.element.Element.TheVariants as element
use Rattle.cc_module.specs.declared.signature.Signature.{Signature}
use Rattle.cc_module.specs.declared.rows.MethodDefRow.{MethodDefRow}
use Rattle.cc_module.specs.declared.rows.StandAloneSigRow.{StandAloneSigRow}
use Rattle.cc_module.specs.Rows.{Cell, all_cells, method_def_cells, member_ref_cells, stand_alone_sig_cells}
use Rattle.cc_module.specs.Signatures.{signature_bytes}
use Rattle.cc_module.specs.Storable.{FIRST_BODY, IsCellInRange, IsInRange, aligned, bodies_end, body_places}
use Rattle.cc_emit.specs.Program.{library_token, static_method, void}
use Rattle.cc_emit.proofs.Names.{small}
use Rattle.cc_functions.specs.declared.function.Function.{Function}
use Rattle.cc_functions.specs.Fits.{FitsFunction, HasLocals, HasRange, size_of, total_size}
use Rattle.cc_functions.specs.Program.{SIGNATURE, bodies, console_members, local_row, local_rows, locals_token, method_row, method_rows, module_of, rows_at, start, start_code}
use Rattle.cc_functions.specs.Program as spec
use Rattle.cc_functions.proofs.Bodies.{next_later}
use Rattle.cc_functions.proofs.Cells.{first, second, third, of_methods, of_locals, cells_of, cells_are, end_low}
use Rattle.cc_functions.proofs.SignatureBytes.{are_bytes}
use Rattle.cc_functions.proofs.Storable.{join, columns_of}

pub start_range : (main : ℕ) → HasRange (start main)
start_range main = record { name = small (codes "<start>") refl; code = (ltb-true 0x28 256 refl, (omega arith, (omega arith, (omega arith, (omega arith, (ltb-true 0x2A 256 refl, tt)))))); max_stack = ltb-true 8 (2 ^ 16) refl }

abbrev Low : Cell → Type 0
Low = IsCellInRange

-- ---- rows

-- every body begins before the bodies end
end_later : (methods : List Function) (at row : ℕ) → at ≤ bodies_end at (bodies row methods)
end_later [] at row = omega arith
end_later (f ∷ methods) at row =
    let next = aligned (at + length (body_bytes (spec.body row f))) in
    let later = next_later at row f in
    let rest = end_later methods next (length (local_row f.locals) + row) in
    omega (arith, later, rest)

method_low : (place : ℕ) (f : Function) → place < 2 ^ 32 → FitsFunction f → HasRange f → AllByRecursion Low (method_def_cells (method_row place f))
method_low place f low fits range = (low, (ltb-true 0 (2 ^ 16) refl, (ltb-true 0x16 (2 ^ 16) refl, (range.name, (are_bytes f.signature fits.signature, (ltb-true 1 (2 ^ 32) refl, tt))))))

methods_low : (methods : List Function) (at row : ℕ) → bodies_end at (bodies row methods) < 2 ^ 32 → AllByRecursion FitsFunction methods → AllByRecursion HasRange methods
    → AllByRecursion (λ r. AllByRecursion Low (method_def_cells r)) (rows_at (body_places at (bodies row methods)) methods)
methods_low [] at row low fit range = tt
methods_low (f ∷ methods) at row low fit range =
    let next = aligned (at + length (body_bytes (spec.body row f))) in
    let further = length (local_row f.locals) + row in
    let later = next_later at row f in
    let rest = end_later methods next further in
    (method_low at f (omega (arith, later, rest, low)) fit.0 range.0, methods_low methods next further low fit.1 range.1)

local_low : (o : Option Signature) → HasLocals o → AllByRecursion (λ r. AllByRecursion Low (stand_alone_sig_cells r)) (local_row o)
local_low None h = tt
local_low (Some s) h = ((are_bytes s h, tt), tt)

locals_low : (methods : List Function) → AllByRecursion FitsFunction methods → AllByRecursion (λ r. AllByRecursion Low (stand_alone_sig_cells r)) (local_rows methods)
locals_low [] fit = tt
locals_low (f ∷ methods) fit = join (λ r. AllByRecursion Low (stand_alone_sig_cells r)) (local_row f.locals) (local_rows methods) (local_low f.locals fit.0.locals) (locals_low methods fit.1)

-- ---- columns of the other rows

abbrev printed : Element → List ℕ
printed e = signature_bytes (static_method void (record { elements = e ∷ [] } ∷ []))

write_low : (e : Element) → AreBytes (printed e) → AllByRecursion Low (member_ref_cells (spec.printing_row (codes "Write") e))
write_low e bytes = (tt, (small (codes "Write") refl, (bytes, tt)))

line_low : (e : Element) → AreBytes (printed e) → AllByRecursion Low (member_ref_cells (spec.printing_row (codes "WriteLine") e))
line_low e bytes = (tt, (small (codes "WriteLine") refl, (bytes, tt)))

members_low : AllByRecursion (λ r. AllByRecursion Low (member_ref_cells r)) console_members
members_low =
    let boolean = small (printed element.Boolean) refl in
    let char = small (printed element.Char) refl in
    let int = small (printed element.I4) refl in
    let unsigned = small (printed element.U4) refl in
    let long = small (printed element.I8) refl in
    let unsigned_long = small (printed element.U8) refl in (
      write_low element.Boolean boolean,
      (
        write_low element.Char char,
        (
          write_low element.I4 int,
          (
            write_low element.U4 unsigned,
            (
              write_low element.I8 long,
              (
                write_low element.U8 unsigned_long,
                (
                  line_low element.Boolean boolean,
                  (
                    line_low element.Char char,
                    (
                      line_low element.I4 int,
                      (
                        line_low element.U4 unsigned,
                        (
                          line_low element.I8 long,
                          (
                            line_low element.U8 unsigned_long,
                            ((tt, (small (codes "WriteLine") refl, (small (signature_bytes (static_method void [])) refl, tt))), tt),
                          ),
                        ),
                      ),
                    ),
                  ),
                ),
              ),
            ),
          ),
        ),
      ),
    )

first_low : AllByRecursion Low first
first_low =
    let zero : 0 < 2 ^ 16 = ltb-true 0 (2 ^ 16) refl in
    let none : 0 < 2 ^ 32 = ltb-true 0 (2 ^ 32) refl in
    let one : 1 < 2 ^ 32 = ltb-true 1 (2 ^ 32) refl in
    (zero, (small (codes "program.exe") refl, (tt, (tt, (tt, (tt, (small (codes "Console") refl, (small (codes "System") refl, (none, (small (codes "<Module>") refl, (tt, (tt, (one, (one, tt))))))))))))))

third_low : AllByRecursion Low third
third_low =
    let zero : 0 < 2 ^ 16 = ltb-true 0 (2 ^ 16) refl in
    let none : 0 < 2 ^ 32 = ltb-true 0 (2 ^ 32) refl in
    (ltb-true 0x8004 (2 ^ 32) refl, (zero, (zero, (zero, (zero, (none, (tt, (small (codes "program") refl, (tt, (ltb-true 4 (2 ^ 16) refl, (zero, (zero, (zero, (none, (small library_token refl, (small (codes "mscorlib") refl, (tt, (tt, tt))))))))))))))))))

cells_low : (methods : List Function) → bodies_end FIRST_BODY (bodies 1 methods) < 2 ^ 32 → AllByRecursion FitsFunction methods → AllByRecursion HasRange methods → AllByRecursion Low (cells_of methods)
cells_low methods low fit range =
    let a = of_methods (method_rows methods) in
    let b = of_locals (local_rows methods) in
    let rows : AllByRecursion Low a = columns_of Low method_def_cells (method_rows methods) (methods_low methods FIRST_BODY 1 low fit range) in
    let members : AllByRecursion Low second = columns_of Low member_ref_cells console_members members_low in
    let locals : AllByRecursion Low b = columns_of Low stand_alone_sig_cells (local_rows methods) (locals_low methods fit) in
    join Low first (a ++ (second ++ (b ++ third))) first_low (join Low a (second ++ (b ++ third)) rows (join Low second (b ++ third) members (join Low b third locals third_low)))

-- ---- bodies

token_low : (row : ℕ) (o : Option Signature) → row < 2 ^ 24 → locals_token row o < 2 ^ 32
token_low row None low = ltb-true 0 (2 ^ 32) refl
token_low row (Some s) low = omega arith

pub row_low : (o : Option Signature) → length (local_row o) ≤ 1
row_low None = omega arith
row_low (Some s) = omega arith

bodies_low : (methods : List Function) (row : ℕ) → row + length methods < 2 ^ 24 → AllByRecursion HasRange methods → AllByRecursion body.IsInRange (bodies row methods)
bodies_low [] row few range = tt
bodies_low (f ∷ methods) row few range =
    let one = row_low f.locals in
    (record { max_stack = range.0.max_stack; locals = token_low row f.locals (omega arith); code = range.0.code; clauses = tt }, bodies_low methods (length (local_row f.locals) + row) (omega (arith, one, few)) range.1)

pub few_methods : (methods : List Function) → 64 * length methods ≤ total_size methods
few_methods [] = omega arith
few_methods (f ∷ methods) = let rest = few_methods methods in omega arith

pub in_range : (methods : List Function) (entry : ℕ) → AllByRecursion FitsFunction methods → AllByRecursion HasRange methods → total_size methods ≤ 268431442 → entry < 2 ^ 32 → IsInRange (module_of methods entry)
in_range methods entry fit range few low =
    let ends = end_low methods in
    let count = few_methods methods in
    record {
      columns = subst (λ (cells : List Cell). AllByRecursion Low cells) (sym (cells_are methods entry)) (cells_low methods (omega (arith, ends, few)) fit range);
      bodies = bodies_low methods 1 (omega (arith, count, few)) range;
      texts = tt;
      entry = low;
    }
