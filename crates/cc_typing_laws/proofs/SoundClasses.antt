-- The classes of a source are those of a program, unless its functions are too many.
use Rattle.std.proofs.Common.{◌≡◌, ℕ, zero, suc, ◌+◌, ◌<◌, ◌≤◌, ◌^◌, Bool, true, false, ◌&&◌, nat_lt, List, [], ◌∷◌, map, length, Some, slice_get, slice_index_or, sum_by, Contains, refl, sym, ◌∙◌, subst, arith}
use Rattle.std.specs.List.{list_all}
use Rattle.std.proofs.lemmas.Bool.{false≢true, ltb-true}
use Rattle.cc_base.specs.declared.identifiers.ClassId.{ClassId}
use Rattle.cc_tree.specs.declared.type_name.FundamentalType.{FundamentalType}
use Rattle.cc_tree.specs.declared.type_name.FundamentalType.TheVariants as f
use Rattle.cc_core.specs.declared.fault.ClassesFault.TheVariants as fault
use Rattle.cc_core.specs.declared.types.ClassInfo.{ClassInfo}
use Rattle.cc_core.specs.Types.{bare}
use Rattle.cc_core.specs.Classes.{type_within, method_within, class_within, parents, parts, Reaches}
use Rattle.cc_core.specs.Classes as classes
use Rattle.cc_operations.specs.Choosing.{Types}
use Rattle.cc_operations.specs.Numbers.{core, core_type}
use Rattle.cc_typing_laws.specs.Contents.{Placed}
use Rattle.cc_typing_laws.specs.Functions.{parameter_types}
use Rattle.cc_typing_laws.specs.Laws.{ClassesAreSound}
use Rattle.cc_typing_laws.specs.Programs.{function_info, module_class, library_classes, classes_with}
use Rattle.cc_typing_laws.proofs.Lists.{no_element, same_some, Each, each_at, each_append, length_map}
use Rattle.cc_typing_laws.proofs.Tests.{both_true, both_pass}

-- ---- tests of lists

each_passes : {X : Type 0} (test : X → Bool) (xs : List X) → list_all test xs ≡ true → Each (λ x. test x ≡ true) xs
each_passes test [] h = tt
each_passes test (x ∷ xs) h = let parts = both_true (test x) (list_all test xs) h in (parts.0, each_passes test xs parts.1)

contained_at : {X : Type 0} (P : X → Type 0) (xs : List X) (x : X) (at : ℕ) → Each P xs → at < length xs → slice_index_or xs at x ≡ x → P x
contained_at P [] x at h within e = absurd (omega (arith, within))
contained_at P (y ∷ xs) x zero h within e = subst P e h.0
contained_at P (y ∷ xs) x (suc at) h within e = contained_at P xs x at h.1 (omega (arith, within)) e

contained : {X : Type 0} (P : X → Type 0) (xs : List X) (x : X) → Each P xs → Contains xs x → P x
contained P xs x h c = contained_at P xs x c.0 h c.1 c.2

-- ---- a table in which each class leads to such of lower numbers has no cycle

abbrev falls : ℕ → List (List ClassId) → Bool
falls number [] = true
falls number (row ∷ rows) = list_all (λ (class : ClassId). nat_lt class.0 number) row && falls (suc number) rows

falls_at : (number : ℕ) (rows : List (List ClassId)) (at : ℕ) (row : List ClassId) → falls number rows ≡ true → slice_get rows at ≡ Some row → Each (λ (class : ClassId). class.0 < at + number) row
falls_at number [] at row h e = absurd (no_element row e)
falls_at number (first ∷ rows) zero row h e =
    subst (Each (λ (class : ClassId). class.0 < 0 + number)) (same_some first row e)
    (each_below first (each_passes (λ (class : ClassId). nat_lt class.0 number) first (both_true (list_all (λ (class : ClassId). nat_lt class.0 number) first) (falls (suc number) rows) h).0))
  where
    each_below : (row : List ClassId) → Each (λ (class : ClassId). nat_lt class.0 number ≡ true) row → Each (λ (class : ClassId). class.0 < 0 + number) row
    each_below [] k = tt
    each_below (class ∷ row) k = (below (ltb-true class.0 number k.0), each_below row k.1)
      where
        below : class.0 < number → class.0 < 0 + number
        below h = omega (arith, h)
falls_at number (first ∷ rows) (suc at) row h e =
    each_later row (falls_at (suc number) rows at row (both_true (list_all (λ (class : ClassId). nat_lt class.0 number) first) (falls (suc number) rows) h).1 e)
  where
    each_later : (row : List ClassId) → Each (λ (class : ClassId). class.0 < at + suc number) row → Each (λ (class : ClassId). class.0 < suc at + number) row
    each_later [] k = tt
    each_later (class ∷ row) k = (omega (arith, k.0), each_later row k.1)

reaches_below : (rows : List (List ClassId)) → falls 0 rows ≡ true → {from to : ClassId} → Reaches rows from to → to.0 < from.0
reaches_below rows h (classes.one {from} {to} {row} e c) =
    let lower : to.0 < from.0 + 0 = contained (λ (class : ClassId). class.0 < from.0 + 0) row to (falls_at 0 rows from.0 row h e) c in omega (arith, lower)
reaches_below rows h (classes.more {from} {by} {to} {row} e c r) =
    let lower : by.0 < from.0 + 0 = contained (λ (class : ClassId). class.0 < from.0 + 0) row by (falls_at 0 rows from.0 row h e) c in
    let behind : to.0 < by.0 = reaches_below rows h r in
    omega (arith, lower, behind)

no_circle : (rows : List (List ClassId)) → falls 0 rows ≡ true → (class : ClassId) → Reaches rows class class → ⊥
no_circle rows h class r = let lower : class.0 < class.0 = reaches_below rows h r in absurd (omega (arith, lower))

-- ---- what functions of fundamental types name

core_within : (count : ℕ) (of : FundamentalType) → type_within count (core of) ≡ true
core_within count f.Void = refl
core_within count f.Bool = refl
core_within count f.WideChar = refl
core_within count f.SignedChar = refl
core_within count f.UnsignedChar = refl
core_within count f.Short = refl
core_within count f.UnsignedShort = refl
core_within count f.Int = refl
core_within count f.UnsignedInt = refl
core_within count f.LongLong = refl
core_within count f.UnsignedLongLong = refl

types_within : (count : ℕ) (types : Types) → list_all (λ of. type_within count (bare of)) (map core_type types) ≡ true
types_within count [] = refl
types_within count (of ∷ types) = both_pass (type_within count (core of)) (list_all (λ of. type_within count (bare of)) (map core_type types)) (core_within count of) (types_within count types)

methods_within : (count : ℕ) (all : List Placed) → list_all (method_within count) (map function_info all) ≡ true
methods_within count [] = refl
methods_within count (one ∷ all) =
    both_pass (method_within count (function_info one)) (list_all (method_within count) (map function_info all))
    (both_pass (list_all (λ of. type_within count (bare of)) (function_info one).parameters && type_within count (bare (function_info one).result)) true
    (both_pass (list_all (λ of. type_within count (bare of)) (function_info one).parameters) (type_within count (bare (function_info one).result)) (types_within count (parameter_types one.function)) (core_within count _)) refl)
    (methods_within count all)

-- ---- the classes of a source

all_within : (all : List Placed) → Each (λ class. class_within 29 class ≡ true) (classes_with library_classes all)
all_within all = each_append (λ (class : ClassInfo). class_within 29 class ≡ true) library_classes (module_class all ∷ []) (each_passes (class_within 29) library_classes refl) (methods_within 29 all, tt)

many_methods : (all : List Placed) → sum_by (λ (class : ClassInfo). length class.methods) (classes_with library_classes all) ≡ length all
many_methods all = first all ∙ length_map function_info all
  where
    zero_before : (n : ℕ) → 0 + n ≡ n
    zero_before n = omega arith

    first : (all : List Placed) → sum_by (λ (class : ClassInfo). length class.methods) (classes_with library_classes all) ≡ length (map function_info all)
    first all = zero_before (length (map function_info all))

-- unless something lies, no refusal is of another cause
contradict : (a b : Bool) → a ≡ true → a ≡ false → ⊥
contradict a b h k = false≢true (sym k ∙ h)

pub classes_are_sound : ClassesAreSound
classes_are_sound all fault.TooManyClasses h = absurd (too_many h)
  where
    too_many : 2 ^ 32 ≤ 29 → ⊥
    too_many h = omega (arith, h)
classes_are_sound all fault.TooManyFields h = absurd (too_many h)
  where
    too_many : 2 ^ 32 ≤ 0 → ⊥
    too_many h = omega (arith, h)
classes_are_sound all fault.TooManyMethods h = subst (λ n. 2 ^ 32 ≤ n) (many_methods all) h
classes_are_sound all (fault.NamesNoClass id) h = contradict (class_within 29 h.0) true (each_at (λ (class : ClassInfo). class_within 29 class ≡ true) (classes_with library_classes all) id.0 h.0 (all_within all) h.1) h.2
classes_are_sound all (fault.DerivesFromItself id) h = no_circle (map parents (classes_with library_classes all)) refl id h
classes_are_sound all (fault.HoldsItself id) h = no_circle (map parts (classes_with library_classes all)) refl id h
classes_are_sound all fault.Memory h = tt
