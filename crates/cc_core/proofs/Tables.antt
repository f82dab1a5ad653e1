-- The tables of parents and of parts, and cycles in their closures.
use Rattle.std.proofs.Common.{◌≡◌, ℕ, ◌<◌, Bool, true, false, cond, ◌&&◌, List, [], ◌∷◌, length, map, Some, All, Contains, slice_get, refl, sym, subst, arith}
use Rattle.std.proofs.Math.ListN.{length-map}
use Rattle.std.specs.List.{list_all, flat_map}
use Rattle.std.proofs.lemmas.Bool.{ltb-true}
use Rattle.std.proofs.lemmas.Option.{slice_get-get_or, slice_get_within}
use Rattle.std.proofs.lemmas.List.Elements.{All-nil, All-cons, All-append, All-map}
use Rattle.cc_base.specs.declared.identifiers.ClassId.{ClassId}
use Rattle.cc_core.specs.declared.types.FieldInfo.{FieldInfo}
use Rattle.cc_core.specs.declared.types.ClassInfo.{ClassInfo}
use Rattle.cc_core.specs.declared.types.ClassKind.{ClassKind}
use Rattle.cc_core.specs.declared.types.ClassKind.TheVariants as kind
use Rattle.cc_core.specs.Types.{BareType, bare}
use Rattle.cc_core.specs.Types as type
use Rattle.cc_core.specs.Classes.{id_within, type_within, field_within, method_within, class_within, parents, part_of, field_part, parts_in, parts, Reaches, one, more}
use Rattle.cc_core.specs.Search.{IsTable, IsClosure}

both : (a b : Bool) → a && b ≡ true → (a ≡ true) × (b ≡ true)
both true b h = (refl, h)
both false b h = cc

-- what a test of each element says
all-from_test : {X : Type 0} (test : X → Bool) (P : X → Type 0) → ((x : X) → test x ≡ true → P x) → (xs : List X) → list_all test xs ≡ true → All P xs
all-from_test test P says [] h = All-nil P
all-from_test test P says (x ∷ xs) h =
    let b = both (test x) (list_all test xs) h in
    All-cons P x xs (says x b.0) (all-from_test test P says xs b.1)

-- the class is among so many
abbrev pub IsBelow : ℕ → ClassId → Type 0
IsBelow count class = class.0 < count

id-below : (count : ℕ) (class : ClassId) → id_within count class ≡ true → IsBelow count class
id-below count class h = ltb-true class.0 count h

-- the three tests of a class
tests : (count : ℕ) (class : ClassInfo) → class_within count class ≡ true → (list_all (id_within count) (parents class) ≡ true) × (list_all (field_within count) class.fields ≡ true)
tests count class h =
    both (list_all (id_within count) (parents class)) (list_all (field_within count) class.fields)
    (both (list_all (id_within count) (parents class) && list_all (field_within count) class.fields) (list_all (method_within count) class.methods) h).0

parents-below : (count : ℕ) (class : ClassInfo) → class_within count class ≡ true → All (IsBelow count) (parents class)
parents-below count class h = all-from_test (id_within count) (IsBelow count) (id-below count) (parents class) (tests count class h).0

part-below : (count : ℕ) (of : BareType) → type_within count of ≡ true → All (IsBelow count) (part_of of)
part-below count (type.Value class) h = All-cons (IsBelow count) class [] (id-below count class h) (All-nil (IsBelow count))
part-below count _ h = All-nil (IsBelow count)

field-below : (count : ℕ) (field : FieldInfo) → field_within count field ≡ true → All (IsBelow count) (field_part field)
field-below count field h =
    elim field.is_static as (λ b. All (IsBelow count) (cond b [] (part_of (bare field.holds)))) [ true ↦ All-nil (IsBelow count) | false ↦ part-below count (bare field.holds) h ]

fields-below : (count : ℕ) (fields : List FieldInfo) → list_all (field_within count) fields ≡ true → All (IsBelow count) (flat_map field_part fields)
fields-below count [] h = All-nil (IsBelow count)
fields-below count (field ∷ fields) h =
    let b = both (field_within count field) (list_all (field_within count) fields) h in
    All-append (IsBelow count) (field_part field) (flat_map field_part fields) (field-below count field b.0) (fields-below count fields b.1)

parts-in-below : (count : ℕ) (of : ClassKind) (class : ClassInfo) → class_within count class ≡ true → All (IsBelow count) (parts_in of class)
parts-in-below count kind.Value class h = fields-below count class.fields (tests count class h).1
parts-in-below count _ class h = All-nil (IsBelow count)

parts-below : (count : ℕ) (class : ClassInfo) → class_within count class ≡ true → All (IsBelow count) (parts class)
parts-below count class h = parts-in-below count class.kind class h

-- a table of such rows has a place for each class that it names
table-from_rows : (classes : List ClassInfo) (row : ClassInfo → List ClassId) → ((class : ClassInfo) → class_within (length classes) class ≡ true → All (IsBelow (length classes)) (row class)) → list_all (class_within (length classes)) classes ≡ true → IsTable (map row classes)
table-from_rows classes row says h =
    subst (λ n. All (λ r. All (IsBelow n) r) (map row classes)) (sym (length-map classes row))
    (All-map (λ r. All (IsBelow (length classes)) r) row classes (all-from_test (class_within (length classes)) (λ class. All (IsBelow (length classes)) (row class)) says classes h))

pub parent-table : (classes : List ClassInfo) → list_all (class_within (length classes)) classes ≡ true → IsTable (map parents classes)
parent-table classes h = table-from_rows classes parents (parents-below (length classes)) h

pub part-table : (classes : List ClassInfo) → list_all (class_within (length classes)) classes ≡ true → IsTable (map parts classes)
part-table classes h = table-from_rows classes parts (parts-below (length classes)) h

reaches_within : {steps : List (List ClassId)} {from to : ClassId} → Reaches steps from to → from.0 < length steps
reaches_within {steps} {from} (one {row} e h) = slice_get_within steps from.0 row e
reaches_within {steps} {from} (more {row} e h r) = slice_get_within steps from.0 row e

-- where no row of a closure has its own class, none reaches itself
pub no_cycle-from_rows : (steps rows : List (List ClassId)) → IsClosure steps rows → ((class : ClassId) (row : List ClassId) → slice_get rows class.0 ≡ Some row → Contains row class → ⊥) → (class : ClassId) → Reaches steps class class → ⊥
no_cycle-from_rows steps rows c none class r =
    let within : class.0 < length rows = omega (arith, reaches_within r, c.same_length) in
    let row = slice_get-get_or rows class.0 [] within in
    none class _ row ((c.each class _ row).complete class r)
