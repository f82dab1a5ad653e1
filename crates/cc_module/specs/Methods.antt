-- The methods of a module by their tokens (ECMA-335, II.22 and II.22.26).
--   NamesMethod m token row   the token names the row of MethodDef, counted from 1
--   body_of m row             the place of the method's body among the bodies
use Rattle.std.specs.Prelude.{◌≡◌, ◌<◌, ◌≤◌, ◌^◌, ℕ, ◌+◌, ◌-◌, ◌==◌, ◌&&◌, not, Bool, List, length, take, slice_get, count_by, nat_lt, Option, Some, None, if◌then◌else◌}
use Rattle.cc_module.specs.declared.rows.MethodDefRow.{MethodDefRow}
use Rattle.cc_module.specs.declared.module.Module.{Module}

-- a token has the table's number in its highest byte and the row below it
pub record NamesMethod (m : Module) (token row : ℕ) : Type 0 where
  pub counted : 1 ≤ row
  pub fits : row < 2 ^ 24
  pub there : row ≤ length m.methods
  pub is : token ≡ 0x06000000 + row

-- it says that it has a body
abbrev pub has_rva : MethodDefRow → Bool
has_rva method = not (method.rva == 0)

abbrev pub body_count : List MethodDefRow → ℕ
body_count methods = count_by has_rva methods

-- of the method where so many bodies stand before its own
abbrev pub body_place : Option MethodDefRow → ℕ → ℕ → Option ℕ
body_place None before bodies = None
body_place (Some method) before bodies = if has_rva method && nat_lt before bodies then Some before else None

-- its RVA isn't 0, and fewer methods of which this holds stand before it than there are bodies
abbrev pub body_of : Module → ℕ → Option ℕ
body_of m row = body_place (slice_get m.methods (row - 1)) (body_count (take (row - 1) m.methods)) (length m.bodies)
