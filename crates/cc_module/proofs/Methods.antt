-- The method that a token names.
use Rattle.std.proofs.Common.{◌≡◌, ℕ, ◌+◌, ◌-◌, ◌<◌, ◌≤◌, ◌^◌, Option, Some, None, List, length, get_or, take, refl}
use Rattle.std.specs.Prelude.{slice_get, IfNone}
use Rattle.std.proofs.lemmas.Option.{slice_get_read}
use Rattle.cc_module.specs.declared.rows.MethodDefRow.{MethodDefRow}
use Rattle.cc_module.specs.declared.module.Module.{Module}
use Rattle.cc_module.specs.Methods.{NamesMethod, body_count, body_place, body_of}

pub body_read : (m : Module) (row before bodies : ℕ) (method : MethodDefRow) (methods : List MethodDefRow) (result : Option ℕ) → methods ≡ m.methods → row - 1 < length methods → method ≡ get_or methods (row - 1) method
    → before ≡ body_count (take (row - 1) methods) → bodies ≡ length m.bodies → result ≡ body_place (Some method) before bodies → result ≡ body_of m row
body_read m row before bodies method methods result e lt is count many h =
    let there : slice_get methods (row - 1) ≡ Some method = slice_get_read methods (length methods) (row - 1) method refl lt is in
    rw (← e, there, ← count, ← many) h

if_none : {A : Type 0} (r : Option A) (P : Type 0) → P → IfNone r P
if_none None P h = h
if_none (Some x) P h = tt

pub unnamed : {A : Type 0} (r : Option A) (m : Module) (token : ℕ) → ((row : ℕ) → 1 ≤ row → row < 2 ^ 24 → token ≡ 0x06000000 + row → ⊥) → IfNone r ((row : ℕ) → NamesMethod m token row → ⊥)
unnamed r m token h = if_none r ((row : ℕ) → NamesMethod m token row → ⊥) (λ row n. h row n.counted n.fits n.is)
