-- Each method has its row and its body.
use Rattle.std.proofs.Common.{◌≡◌, ℕ, zero, suc, ◌+◌, ◌-◌, ◌*◌, ◌^◌, ◌<◌, ◌≤◌, Bool, true, false, Option, Some, None, List, [], ◌∷◌, ◌++◌, length, get_or, take, refl, sym, ap, subst, ◌∙◌, arith, cond, length-append}
use borrow.Author.Tests.{ltb-true}
use Rattle.std.specs.Prelude.{◌&&◌, not, nat_lt, slice_get, if◌then◌else◌}
use Rattle.std.specs.List.{AllByRecursion}
use Rattle.std.proofs.lemmas.Bool.{lt-ltb}
use Rattle.std.proofs.lemmas.List.Sums.{sum_by-cons}
use Rattle.std.proofs.lemmas.Option.{slice_get-get_or}
use Rattle.cc_cil.specs.Bodies.{body_bytes}
use Rattle.cc_module.specs.declared.rows.MethodDefRow.{MethodDefRow}
use Rattle.cc_module.specs.Methods.{NamesMethod, has_rva, body_count, body_place, body_of}
use Rattle.cc_module.specs.Storable.{FIRST_BODY, aligned, body_places}
use Rattle.cc_functions.specs.declared.function.Function.{Function}
use Rattle.cc_functions.specs.Fits.{Fits, total_size}
use Rattle.cc_functions.specs.Laws.{HasMethod, HasMethods}
use Rattle.cc_functions.specs.Program.{METHOD, bodies, functions_module, local_row, method_rows, methods_of, rows_at, start}
use Rattle.cc_functions.specs.Program as spec
use Rattle.cc_functions.proofs.Bodies.{bodies_count, is_some, next_later, rows_count}
use Rattle.cc_functions.proofs.Ranges.{few_methods}

abbrev AllFilled : List MethodDefRow → Type 0
AllFilled rows = AllByRecursion (λ r. has_rva r ≡ true) rows

filled : (methods : List Function) (at row : ℕ) → 0 < at → AllFilled (rows_at (body_places at (bodies row methods)) methods)
filled [] at row later = tt
filled (f ∷ methods) at row later =
    let next = aligned (at + length (body_bytes (spec.body row f))) in
    (ap not (is_some at later), filled methods next (length (local_row f.locals) + row) (omega (arith, next_later at row f)))

abbrev one_if : MethodDefRow → ℕ
one_if r = cond (has_rva r) 1 0

counted : (rows : List MethodDefRow) (n : ℕ) → AllFilled rows → n ≤ length rows → body_count (take n rows) ≡ n
counted rows zero h within = refl
counted [] (suc n) h within = absurd (omega arith)
counted (r ∷ rows) (suc n) h within =
    let sum = sum_by-cons one_if r (take n rows) in
    let one : one_if r ≡ 1 = ap (λ (b : Bool). cond b 1 0) h.0 in
    let rest : body_count (take n rows) ≡ n = counted rows n h.1 (omega arith) in
    sum ∙ omega (arith, one, rest)

filled_at : (rows : List MethodDefRow) (i : ℕ) (d : MethodDefRow) → AllFilled rows → i < length rows → has_rva (get_or rows i d) ≡ true
filled_at [] i d h within = absurd (omega arith)
filled_at (r ∷ rows) zero d h within = h.0
filled_at (r ∷ rows) (suc i) d h within = filled_at rows i d h.1 (omega arith)

pub body_there : (rows : List MethodDefRow) (d : MethodDefRow) (count place : ℕ) → AllFilled rows → place < length rows → place < count → body_place (slice_get rows place) (body_count (take place rows)) count ≡ Some place
body_there rows d count place h within few =
    let there : slice_get rows place ≡ Some (get_or rows place d) = slice_get-get_or rows place d within in
    let before : body_count (take place rows) ≡ place = counted rows place h (omega arith) in
    let has : has_rva (get_or rows place d) ≡ true = filled_at rows place d h within in
    let low : nat_lt place count ≡ true = lt-ltb place count few in
    ap (λ (r : Option MethodDefRow). body_place r (body_count (take place rows)) count) there
    ∙ ap (λ (n : ℕ). body_place (Some (get_or rows place d)) n count) before
    ∙ ap (λ (b : Bool). if b && nat_lt place count then Some place else None) has
    ∙ ap (λ (b : Bool). if b then Some place else None) low

-- ---- the methods of a program

pub all_count : (functions : List Function) (main : ℕ) → length (methods_of functions main) ≡ length functions + 1
all_count functions main = length-append functions (start main ∷ [])

pub has_method : (functions : List Function) (main place : ℕ) → length functions + 2 < 2 ^ 24 → place ≤ length functions → HasMethod functions main place
has_method functions main place few within =
    let all = methods_of functions main in
    let count = all_count functions main in
    let rows = rows_count all FIRST_BODY 1 in
    let there = bodies_count all 1 in
    let row_there : place < length (method_rows all) = omega (arith, count, rows) in
    let body_is_there : place < length (bodies 1 all) = omega (arith, count, there) in
    let same : place ≡ place + 1 - 1 = omega arith in
    let full = filled all FIRST_BODY 1 (ltb-true 0 FIRST_BODY refl) in
    let found : body_place (slice_get (method_rows all) place) (body_count (take place (method_rows all))) (length (bodies 1 all)) ≡ Some place = body_there (method_rows all) (spec.method_row 0 (start main)) (length (bodies 1 all)) place full row_there body_is_there in
    record {
      names = record { counted = omega arith; fits = omega arith; there = omega (arith, row_there); is = omega arith };
      body = subst (λ (n : ℕ). body_place (slice_get (method_rows all) n) (body_count (take n (method_rows all))) (length (bodies 1 all)) ≡ Some place) same found;
    }

pub has_methods : (functions : List Function) (main : ℕ) → Fits functions → HasMethods functions main
has_methods functions main fits =
    let few = few_methods functions in
    let size = fits.size in
    record {
      each = λ place within. has_method functions main place (omega (arith, few, size)) (omega arith);
      start = has_method functions main (length functions) (omega (arith, few, size)) (omega arith);
      entry = refl;
    }
