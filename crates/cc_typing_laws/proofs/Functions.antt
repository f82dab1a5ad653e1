-- The functions of a source as those of the program's classes.
use Rattle.std.proofs.Common.{◌≡◌, ℕ, zero, suc, ◌+◌, false, List, [], ◌∷◌, ◌++◌, map, Option, Some, None, slice_get, refl, ap, ◌∙◌, subst, append-nil, arith}
use Rattle.std.specs.List.{list_any}
use Rattle.std.proofs.lemmas.Grind.{flat_map-append}
use Rattle.cc_tree.specs.declared.identifier.Identifier.{Identifier}
use Rattle.cc_tree.specs.declared.member.Parameter.{Parameter}
use Rattle.cc_tree.specs.declared.type_name.FundamentalType.{FundamentalType}
use Rattle.cc_core.specs.declared.types.ClassInfo.{ClassInfo}
use Rattle.cc_core.specs.Types.{BareType, bare}
use Rattle.cc_core.specs.Typed.{methods_of}
use Rattle.cc_operations.specs.declared.source.Known.{Known}
use Rattle.cc_operations.specs.Choosing.{Types}
use Rattle.cc_operations.specs.Numbers.{core, core_type, is_void, written}
use Rattle.cc_typing_laws.specs.Contents.{Placed}
use Rattle.cc_typing_laws.specs.Functions.{parameter_types, known_as, known_from, or_zero, named_parameter, parameters_from, frame_of}
use Rattle.cc_typing_laws.specs.Programs.{function_info, module_class, classes_with}
use Rattle.cc_typing_laws.proofs.Calls.{HaveValues, FitsSource}
use Rattle.cc_typing_laws.proofs.Expressions.{FitsVariable}
use Rattle.cc_typing_laws.proofs.Frames.{Covers, Ready}
use Rattle.cc_typing_laws.proofs.Lists.{no_element, same_some, Each, each_at, get_map, each_append}
use Rattle.cc_typing_laws.proofs.Tests.{neither}

pub bare_core : (types : Types) → map bare (map core_type types) ≡ map core types
bare_core [] = refl
bare_core (of ∷ types) = ap (λ more. core of ∷ more) (bare_core types)

-- ---- the functions of the classes

abbrev pub HasNone : List ClassInfo → Type 0
HasNone library = methods_of library ≡ []

pub all_methods : (library : List ClassInfo) (all : List Placed) → HasNone library → methods_of (classes_with library all) ≡ map function_info all
all_methods library all none =
    flat_map-append (λ (one : ClassInfo). one.methods) library (module_class all ∷ []) ∙ ap (λ methods. methods ++ (map function_info all ++ [])) none ∙ append-nil (map function_info all)

pub method_there : (library : List ClassInfo) (all : List Placed) → HasNone library → (at : ℕ) (one : Placed) → slice_get all at ≡ Some one → slice_get (methods_of (classes_with library all)) at ≡ Some (function_info one)
method_there library all none at one e = ap (λ methods. slice_get methods at) (all_methods library all none) ∙ get_map function_info all at one e

-- a function that calls know, as it stands in the source
record Comes (all : List Placed) (at : ℕ) (known : Known) : Type 0 where
  one : Placed
  is : slice_get all at ≡ Some one
  parameters : parameter_types one.function ≡ known.parameters
  result : written one.function.result ≡ known.result

comes_from : (first : ℕ) (numbers : List ℕ) (all : List Placed) (at : ℕ) (known : Known) → slice_get (known_from first numbers all) at ≡ Some known → Comes all at known
comes_from first numbers [] at known e = absurd (no_element known e)
comes_from first numbers (one ∷ more) zero known e =
    let same : known_as one (or_zero (slice_get numbers first)) ≡ known = same_some (known_as one (or_zero (slice_get numbers first))) known e in
    record { one = one; is = refl; parameters = ap (λ (k : Known). k.parameters) same; result = ap (λ (k : Known). k.result) same }
comes_from first numbers (one ∷ more) (suc at) known e =
    let behind = comes_from (suc first) numbers more at known e in record { one = behind.one; is = behind.is; parameters = behind.parameters; result = behind.result }

-- the parameters of a function have values
abbrev pub HasParameters : Placed → Type 0
HasParameters one = HaveValues (parameter_types one.function)

pub source_fits : (library : List ClassInfo) (all : List Placed) (numbers : List ℕ) → HasNone library → Each HasParameters all → FitsSource (classes_with library all) (known_from 0 numbers all)
source_fits library all numbers none valued at known e =
    let from = comes_from 0 numbers all at known e in
    record {
      callable = record {
        function = function_info from.one;
        is = method_there library all none at from.one from.is;
        has_body = refl;
        parameters = bare_core (parameter_types from.one.function) ∙ ap (map core) from.parameters;
        gives = ap core from.result;
      };
      valued = subst HaveValues from.parameters (each_at HasParameters all at from.one valued from.is);
    }

-- ---- parameters

pub have_values : (types : Types) → list_any is_void types ≡ false → HaveValues types
have_values [] e = tt
have_values (of ∷ types) e = let apart = neither (is_void of) (list_any is_void types) e in (apart.0, have_values types apart.1)

abbrev types_in : List Parameter → Types
types_in parameters = map (λ parameter. written parameter.of) parameters

named_fits : (locals : List BareType) (name : Option Identifier) (of : FundamentalType) (number : ℕ) → slice_get locals number ≡ Some (core of) → is_void of ≡ false → Each (FitsVariable locals) (named_parameter name of number)
named_fits locals None of number e v = tt
named_fits locals (Some name) of number e v = ((e, v), tt)

parameters_fit : (locals : List BareType) (parameters : List Parameter) (number : ℕ) → ((at : ℕ) (of : FundamentalType) → slice_get (types_in parameters) at ≡ Some of → slice_get locals (at + number) ≡ Some (core of)) → HaveValues (types_in parameters)
    → Each (FitsVariable locals) (parameters_from number parameters)
parameters_fit locals [] number there valued = tt
parameters_fit locals (one ∷ more) number there valued =
    each_append (FitsVariable locals) (named_parameter one.name (written one.of) number) (parameters_from (suc number) more)
    (named_fits locals one.name (written one.of) number (subst (λ n. slice_get locals n ≡ Some (core (written one.of))) (zero_before number) (there 0 (written one.of) refl)) valued.0)
    (parameters_fit locals more (suc number) (λ at of e. subst (λ n. slice_get locals n ≡ Some (core of)) (suc_between at number) (there (suc at) of e)) valued.1)
  where
    zero_before : (n : ℕ) → 0 + n ≡ n
    zero_before n = omega arith

    suc_between : (at n : ℕ) → suc at + n ≡ at + suc n
    suc_between at n = omega arith

-- a function's body begins with its parameters
pub frame_ready : (locals : List BareType) (one : Placed) (around : ℕ) → Covers locals (frame_of one around) → HasParameters one → Ready locals (written one.function.result) (frame_of one around)
frame_ready locals one around covers valued = record {
  variables = parameters_fit locals one.function.parameters.items 0 (λ at of e. subst (λ n. slice_get locals n ≡ Some (core of)) (zero_behind at) (covers at of e)) valued;
  result_is = refl;
}
  where
    zero_behind : (n : ℕ) → n ≡ n + 0
    zero_behind n = omega arith
