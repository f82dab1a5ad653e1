-- The typed program of a source, or why it is refused (ECMA-372, 10, 15 and 16): its classes, the typed bodies of its functions, and the function at which it starts.
use Rattle.std.specs.Prelude.{ℕ, suc, List, [], ◌∷◌, ◌++◌, map, codes, Bool, true, false, cond, ◌&&◌, Option, Some, None, Ok}
use Rattle.cc_base.specs.declared.identifiers.ClassId.{ClassId}
use Rattle.cc_base.specs.declared.identifiers.MethodId.{MethodId}
use Rattle.cc_base.specs.declared.text.Span.{Span}
use Rattle.cc_tree.specs.declared.member.Parameter.{Parameter}
use Rattle.cc_tree.specs.declared.type_name.FundamentalType.{FundamentalType}
use Rattle.cc_tree.specs.declared.type_name.FundamentalType.TheVariants as f
use Rattle.cc_tree.specs.declared.unit.Unit.{Unit}
use Rattle.cc_core.specs.declared.tree.ProgramParts.{ProgramParts}
use Rattle.cc_core.specs.declared.types.Access.TheVariants as access
use Rattle.cc_core.specs.declared.types.ClassInfo.{ClassInfo}
use Rattle.cc_core.specs.declared.types.ClassKind.{ClassKind}
use Rattle.cc_core.specs.declared.types.ClassKind.TheVariants as kind
use Rattle.cc_core.specs.declared.types.MethodInfo.{MethodInfo}
use Rattle.cc_names.specs.declared.scope.Item.{Item}
use Rattle.cc_names.specs.Directives.{directives}
use Rattle.cc_names.specs.Library as names
use Rattle.cc_operations.specs.declared.source.Source.{Source}
use Rattle.cc_operations.specs.Choosing.{Pick}
use Rattle.cc_operations.specs.Numbers.{core_type, written}
use Rattle.cc_operations.specs.Judgements.{Judged, next}
use Rattle.cc_operations.specs.Operations.{no_conversion}
use Rattle.cc_terms.specs.Resolving.{Finds}
use Rattle.cc_typing_laws.specs.Contents.{Placed, functions, directed}
use Rattle.cc_typing_laws.specs.Finding.{finds_in}
use Rattle.cc_typing_laws.specs.Functions.{TypedBody, told_body, parameter_types, numbers_from, known_from, is_main, method_id, bodies_from}

-- ---- classes

abbrev pub nowhere : Span
nowhere = record { first = 0; past = 0 }

-- a class of the library; its members join it with the forms that need them
abbrev pub library_class : List ℕ → ClassKind → Option ClassId → ClassInfo
library_class name kind base =
    record { name = name; span = nowhere; kind = kind; base = base; interfaces = []; is_abstract = false; is_sealed = false; fields = []; methods = [] }

abbrev pub derived : ℕ → Option ClassId
derived number = Some (record { 0 = number })

-- the library's classes, in order of their numbers (ECMA-335, IV.5)
abbrev pub library_classes : List ClassInfo
library_classes =
    library_class (codes "System.Object") kind.Ref None
    ∷ library_class (codes "System.String") kind.Ref (derived 0)
    ∷ library_class (codes "System.ValueType") kind.Ref (derived 0)
    ∷ library_class (codes "System.Enum") kind.Ref (derived 2)
    ∷ library_class (codes "System.Boolean") kind.Value (derived 2)
    ∷ library_class (codes "System.Char") kind.Value (derived 2)
    ∷ library_class (codes "System.SByte") kind.Value (derived 2)
    ∷ library_class (codes "System.Byte") kind.Value (derived 2)
    ∷ library_class (codes "System.Int16") kind.Value (derived 2)
    ∷ library_class (codes "System.UInt16") kind.Value (derived 2)
    ∷ library_class (codes "System.Int32") kind.Value (derived 2)
    ∷ library_class (codes "System.UInt32") kind.Value (derived 2)
    ∷ library_class (codes "System.Int64") kind.Value (derived 2)
    ∷ library_class (codes "System.UInt64") kind.Value (derived 2)
    ∷ library_class (codes "System.IDisposable") kind.Interface None
    ∷ library_class (codes "System.Console") kind.Ref (derived 0)
    ∷ library_class (codes "System.GC") kind.Ref (derived 0)
    ∷ library_class (codes "System.Exception") kind.Ref (derived 0)
    ∷ library_class (codes "System.SystemException") kind.Ref (derived 17)
    ∷ library_class (codes "System.ArithmeticException") kind.Ref (derived 18)
    ∷ library_class (codes "System.DivideByZeroException") kind.Ref (derived 19)
    ∷ library_class (codes "System.OverflowException") kind.Ref (derived 19)
    ∷ library_class (codes "System.NullReferenceException") kind.Ref (derived 18)
    ∷ library_class (codes "System.IndexOutOfRangeException") kind.Ref (derived 18)
    ∷ library_class (codes "System.InvalidCastException") kind.Ref (derived 18)
    ∷ library_class (codes "System.ArgumentException") kind.Ref (derived 18)
    ∷ library_class (codes "System.InvalidOperationException") kind.Ref (derived 18)
    ∷ library_class (codes "System.FormatException") kind.Ref (derived 18)
    ∷ []

-- a function outside classes, with its full name: those of its namespaces before it, each with a `.` behind it
abbrev pub function_info : Placed → MethodInfo
function_info one =
    record {
      name = one.path ++ one.function.name.name;
      span = one.function.span;
      parameters = map core_type (parameter_types one.function);
      result = core_type (written one.function.result);
      access = access.Public;
      is_static = true;
      has_body = true;
      marks = [];
      named = [];
    }

-- the class that has the functions outside classes
abbrev pub module_class : List Placed → ClassInfo
module_class all =
    record { name = codes "<Module>"; span = nowhere; kind = kind.Ref; base = None; interfaces = []; is_abstract = false; is_sealed = false; fields = []; methods = map function_info all }

abbrev pub classes_with : List ClassInfo → List Placed → List ClassInfo
classes_with library all = library ++ module_class all ∷ []

-- ---- the function at which a program starts

abbrev pub is_int : FundamentalType → Bool
is_int f.Int = true
is_int _ = false

abbrev pub is_none : List Parameter → Bool
is_none [] = true
is_none (one ∷ more) = false

-- `main` outside namespaces, without parameters and with the result `int`
abbrev pub is_start : Placed → Bool
is_start one = is_main one && (is_int (written one.function.result) && is_none one.function.parameters.items)

-- the number of the first such function, where the first function has a number
abbrev pub start_from : ℕ → List Placed → Option ℕ
start_from number [] = None
start_from number (one ∷ more) = cond (is_start one) (Some number) (start_from (suc number) more)

abbrev pub started_at : Span → Option ℕ → Judged MethodId
started_at span None = no_conversion span
started_at span (Some number) = Ok (method_id number)

-- ---- programs

pub record TypedProgram : Type 0 where
  pub classes : List ClassInfo
  pub bodies : List TypedBody
  pub main : MethodId

-- the parts of a program as the code holds them, without the places of their parts in memory
abbrev pub program_bare : ProgramParts → TypedProgram
program_bare parts = record { classes = parts.classes; bodies = map told_body parts.bodies; main = parts.main }

abbrev pub source_of : List ClassInfo → Unit → List ℕ → Source
source_of library unit numbers = record { functions = known_from 0 numbers (functions unit); directed = directed unit; classes = classes_with library (functions unit) }

module _ (pick : Pick) where
  -- with what look-ups find among the declarations
  abbrev pub typed_with : List ClassInfo → Finds → List Item → Unit → Judged TypedProgram
  typed_with library finds items unit =
      next (bodies_from pick finds (source_of library unit (numbers_from 0 items)) items (numbers_from 0 items) 0 (functions unit) []) (λ bodies.
      next (started_at unit.span (start_from 0 (functions unit))) (λ main.
      Ok (record { classes = classes_with library (functions unit); bodies = bodies; main = main })))

  -- The typed program of a unit, or the first refusal: the functions in order of place, and in one the first node, in postorder, that no case covers.
  abbrev pub typed_program : Unit → Judged TypedProgram
  typed_program unit =
      typed_with library_classes (finds_in (names.declared unit).scopes (names.declared unit).items (directives (names.declared unit).scopes (names.declared unit).items unit)) (names.declared unit).items unit
