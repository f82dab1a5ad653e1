-- The bodies of methods, by rows.
use Rattle.std.proofs.Common.{◌≡◌, ◌≤◌, ◌<◌, ◌+◌, ◌-◌, ℕ, zero, suc, List, length, take, refl, sym, ap, ◌∙◌, arith}
use Rattle.std.specs.Prelude.{Bool, true, false, Option, Some, None, slice_get, nat_lt, not, ◌==◌, ◌&&◌, if◌then◌else◌}
use Rattle.std.proofs.lemmas.Option.{slice_get_past}
use Rattle.std.proofs.lemmas.Bool.{ltb-false}
use Rattle.cc_cil.specs.declared.body.Body.{Body}
use Rattle.cc_module.specs.declared.rows.MethodDefRow.{MethodDefRow}
use Rattle.cc_module.specs.declared.module.Module.{Module}
use Rattle.cc_module.specs.Methods.{has_rva, body_count, body_place, body_of}
use Rattle.cc_verify.specs.ClassRules.{body_at}

placed : (bodies : List Body) (m : Module) (before : ℕ) (b : Bool) → bodies ≡ m.bodies → nat_lt before (length m.bodies) ≡ b → slice_get bodies before ≡ body_at m (if b then Some before else None)
placed bodies m before true same e = ap (λ l. slice_get l before) same
placed bodies m before false same e = ap (λ l. slice_get l before) same ∙ slice_get_past m.bodies before (ltb-false before (length m.bodies) e)

-- where it says that it has none
pub own_none : (m : Module) (method : MethodDefRow) (before : ℕ) → method.rva ≡ 0 → None ≡ body_at m (body_place (Some method) before (length m.bodies))
own_none m method before none = ap (λ n. body_at m (if not (n == 0) && nat_lt before (length m.bodies) then Some before else None)) (sym none)

-- where it says that it has a body
pub own_there : (m : Module) (method : MethodDefRow) (before : ℕ) → has_rva method ≡ true → slice_get m.bodies before ≡ body_at m (body_place (Some method) before (length m.bodies))
own_there m method before has =
    placed m.bodies m before (nat_lt before (length m.bodies)) refl refl ∙ ap (λ b. body_at m (if b && nat_lt before (length m.bodies) then Some before else None)) (sym has)

-- of the row that is there, or of none
pub body_of_row : (m : Module) (row before : ℕ) (o : Option MethodDefRow) → o ≡ slice_get m.methods (row - 1) → before ≡ body_count (take (row - 1) m.methods) → body_at m (body_place o before (length m.bodies)) ≡ body_at m (body_of m row)
body_of_row m row before o there count = ap (λ x. body_at m (body_place x before (length m.bodies))) there ∙ ap (λ n. body_at m (body_place (slice_get m.methods (row - 1)) n (length m.bodies))) count
