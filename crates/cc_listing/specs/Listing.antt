-- The text of a module: for each type its name, its fields, and its methods with their bodies (ECMA-335, II.22.15, II.22.26, II.22.37).
--   ListsModule m text   the text of a module
--   ListsType m at text  the lines of the type at a place of TypeDef, from 0
use Rattle.std.specs.Prelude.{◌≡◌, ◌<◌, ◌^◌, ◌+◌, ◌-◌, ◌==◌, ℕ, suc, min, max, Option, Some, None, List, [], ◌++◌, codes, take, length, slice_get, if◌then◌else◌}
use Rattle.std.specs.List.{All}
use Rattle.std.specs.Option.{option_map}
use Rattle.hex.specs.Hex.{encode_lower}
use Rattle.cc_cil.specs.declared.body.Body.{Body}
use Rattle.cc_module.specs.declared.module.Module.{Module}
use Rattle.cc_module.specs.declared.rows.FieldRow.{FieldRow}
use Rattle.cc_module.specs.declared.rows.MethodDefRow.{MethodDefRow}
use Rattle.cc_module.specs.declared.rows.TypeDefRow.{TypeDefRow}
use Rattle.cc_module.specs.Methods.{body_count, body_of, body_place}
use Rattle.cc_listing.specs.Bodies.{ListsBody}
use Rattle.cc_listing.specs.Rows.{Rows}

-- namespace and name, with a point between them where there is a namespace
abbrev pub full_name : List ℕ → List ℕ → List ℕ
full_name namespace name = if length namespace == 0 then name else namespace ++ codes "." ++ name

abbrev pub class_line : TypeDefRow → List ℕ
class_line t = codes "class " ++ full_name t.namespace t.name ++ codes "\n"

abbrev pub field_line : FieldRow → List ℕ
field_line f = codes "  field " ++ f.name ++ codes " " ++ encode_lower f.signature ++ codes "\n"

abbrev pub method_line : MethodDefRow → List ℕ
method_line m = codes "  method " ++ m.name ++ codes " " ++ encode_lower m.signature ++ codes "\n"

abbrev pub ListsField : List FieldRow → ℕ → List ℕ → Type 0
ListsField fields row text = (f : FieldRow) × (slice_get fields (row - 1) ≡ Some f) × (text ≡ field_line f)

-- the lines of the body at a place, if there is one
abbrev pub ListsBodyAt : List Body → Option ℕ → List ℕ → Type 0
ListsBodyAt bodies None text = text ≡ []
ListsBodyAt bodies (Some place) text = (body : Body) × (slice_get bodies place ≡ Some body) × ListsBody body text

abbrev pub ListsMethod : Module → ℕ → List ℕ → Type 0
ListsMethod m row text = (method : MethodDefRow) × (slice_get m.methods (row - 1) ≡ Some method) × (lines : List ℕ) × ListsBodyAt m.bodies (body_of m row) lines × (text ≡ method_line method ++ lines)

-- The run of a list column: from its row on, before the row of the next type's, or to the table's end.
abbrev pub run_first : ℕ → ℕ
run_first start = max 1 start

abbrev pub run_past : Option ℕ → ℕ → ℕ
run_past None count = count + 1
run_past (Some next) count = min next (count + 1)

abbrev pub ListsType : Module → ℕ → List ℕ → Type 0
ListsType m at text =
    (t : TypeDefRow) × (slice_get m.type_defs at ≡ Some t)
    × (fields : List ℕ) × Rows (ListsField m.fields) (run_first t.fields.0) (run_past (option_map (λ next. next.fields.0) (slice_get m.type_defs (at + 1))) (length m.fields)) fields
    × (methods : List ℕ) × Rows (ListsMethod m) (run_first t.methods.0) (run_past (option_map (λ next. next.methods.0) (slice_get m.type_defs (at + 1))) (length m.methods)) methods
    × (text ≡ class_line t ++ fields ++ methods)

abbrev pub ListsModule : Module → List ℕ → Type 0
ListsModule m text = Rows (ListsType m) 0 (length m.type_defs) text

-- the place of the body of the method at a place of MethodDef, from 0
abbrev pub place_of : List MethodDefRow → ℕ → ℕ → Option ℕ
place_of methods bodies at = body_place (slice_get methods at) (body_count (take at methods)) bodies

-- these are the places of the bodies of the methods in order
pub record ArePlaces (methods : List MethodDefRow) (bodies : ℕ) (places : List (Option ℕ)) : Type 0 where
  pub count : length places ≡ length methods
  pub each : (at : ℕ) → at < length methods → slice_get places at ≡ Some (place_of methods bodies at)

-- offsets of the code of each body are numbers of 32 bits
abbrev pub HasShortBodies : Module → Type 0
HasShortBodies m = All (λ body. length body.code < 2 ^ 32) m.bodies
