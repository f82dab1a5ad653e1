-- Bodies without clauses, and where they stand.
use Rattle.std.proofs.Common.{◌≡◌, ℕ, zero, suc, ◌+◌, ◌-◌, ◌*◌, ◌/◌, ◌%◌, ◌^◌, ◌<◌, ◌≤◌, ◌==◌, Bool, true, false, List, [], ◌∷◌, ◌++◌, length, map, refl, ap, ◌∙◌, arith, length-append, cond}
use Rattle.std.specs.Prelude.{◌&&◌, not, filter, nat_lt, if◌then◌else◌}
use Rattle.std.proofs.lemmas.Bool.Decides.{nat_tests}
use Rattle.cc_layout.specs.Layout.{bytes_of}
use Rattle.cc_cil.specs.declared.body.Body.{Body}
use Rattle.cc_cil.specs.Bodies as body
use Rattle.cc_cil.specs.Bodies.{FAT, bytes_by, body_bytes, fat_header, is_tiny, padding, tiny_header}
use Rattle.cc_module.specs.declared.rows.MethodDefRow.{MethodDefRow}
use Rattle.cc_module.specs.Methods.{has_rva}
use Rattle.cc_module.specs.Storable.{aligned, bodies_end, body_places}
use Rattle.cc_functions.specs.declared.function.Function.{Function}
use Rattle.cc_functions.specs.Program.{bodies, local_row, method_row, rows_at}
use Rattle.cc_functions.specs.Program as spec

-- ---- sizes

abbrev headed : Body → Bool → List ℕ
headed b tiny = if tiny then bytes_of (tiny_header (length b.code)) ++ b.code else bytes_of (fat_header FAT b.max_stack (length b.code) b.locals) ++ b.code

headed_size : (b : Body) (tiny : Bool) → length (headed b tiny) ≡ (if tiny then 1 + length b.code else 12 + length b.code)
headed_size b true = length-append (bytes_of (tiny_header (length b.code))) b.code
headed_size b false = length-append (bytes_of (fat_header FAT b.max_stack (length b.code) b.locals)) b.code

pub size_is : (b : Body) → b.clauses ≡ [] → length (body_bytes b) ≡ (if is_tiny b.max_stack (length b.code) b.locals then 1 + length b.code else 12 + length b.code)
size_is b none = ap (λ clauses. length (bytes_by b clauses)) none ∙ headed_size b (is_tiny b.max_stack (length b.code) b.locals)

low : (tiny : Bool) (n : ℕ) → (if tiny then 1 + n else 12 + n) ≤ 12 + n
low true n = omega arith
low false n = omega arith

pub size_low : (row : ℕ) (f : Function) → length (body_bytes (spec.body row f)) ≤ 12 + length f.code
size_low row f =
    let b = spec.body row f in
    let is : length (body_bytes b) ≡ (if is_tiny f.max_stack (length f.code) b.locals then 1 + length f.code else 12 + length f.code) = headed_size b (is_tiny f.max_stack (length f.code) b.locals) in
    let most = low (is_tiny f.max_stack (length f.code) b.locals) (length f.code) in
    omega arith

pub pads : (place : ℕ) → padding place < 4
pads place = omega arith

-- where the next body begins
pub next_low : (at row : ℕ) (f : Function) → aligned (at + length (body_bytes (spec.body row f))) ≤ at + 15 + length f.code
next_low at row f =
    let size = size_low row f in
    let near = pads (at + length (body_bytes (spec.body row f))) in
    omega arith

pub next_later : (at row : ℕ) (f : Function) → at ≤ aligned (at + length (body_bytes (spec.body row f)))
next_later at row f = omega arith

-- ---- rows

pub is_some : (at : ℕ) → 0 < at → (at == 0) ≡ false
is_some at h = grind (arith, nat_tests)

-- the places of methods of which the first has one or not
abbrev rvas : ℕ → Function → List MethodDefRow → Bool → List ℕ
rvas at f rows none = map (λ method. method.rva) (cond (not none) (method_row at f ∷ filter has_rva rows) (filter has_rva rows))

pub places : (methods : List Function) (at row : ℕ) → 0 < at → map (λ method. method.rva) (filter has_rva (rows_at (body_places at (bodies row methods)) methods)) ≡ body_places at (bodies row methods)
places [] at row later = refl
places (f ∷ methods) at row later =
    let next = aligned (at + length (body_bytes (spec.body row f))) in
    let further = length (local_row f.locals) + row in
    let after : 0 < next = omega (arith, next_later at row f) in
    ap (rvas at f (rows_at (body_places next (bodies further methods)) methods)) (is_some at later) ∙ ap (λ (others : List ℕ). at ∷ others) (places methods next further after)

-- how many there are
pub bodies_count : (methods : List Function) (row : ℕ) → length (bodies row methods) ≡ length methods
bodies_count [] row = refl
bodies_count (f ∷ methods) row = ap suc (bodies_count methods (length (local_row f.locals) + row))

pub rows_count : (methods : List Function) (at row : ℕ) → length (rows_at (body_places at (bodies row methods)) methods) ≡ length methods
rows_count [] at row = refl
rows_count (f ∷ methods) at row = ap suc (rows_count methods (aligned (at + length (body_bytes (spec.body row f)))) (length (local_row f.locals) + row))
