-- The typed bodies of the functions of a source, or why one is refused (ECMA-372, 10 and 25; ISO/IEC 14882:2003, 6.6.3): the first function that is refused decides.
use Rattle.std.specs.Prelude.{ℕ, suc, List, [], ◌∷◌, ◌++◌, map, codes, Bool, true, false, cond, ◌&&◌, not, Option, Some, None, Ok, slice_get, nat_lt}
use Rattle.std.specs.List.{list_any}
use Rattle.std.specs.Str.{bytes_eq}
use Rattle.cc_base.specs.declared.kind.Kind.TheVariants as kind
use Rattle.cc_base.specs.declared.identifiers.MethodId.{MethodId}
use Rattle.cc_tree.specs.declared.identifier.Identifier.{Identifier}
use Rattle.cc_tree.specs.declared.member.Parameter.{Parameter}
use Rattle.cc_tree.specs.declared.type_name.FundamentalType.{FundamentalType}
use Rattle.cc_tree.specs.declared.unit.Function.{Function}
use Rattle.cc_core.specs.declared.tree.FunctionBody.{FunctionBody}
use Rattle.cc_core.specs.Bare.{step_of, term_of}
use Rattle.cc_core.specs.Step.{Step}
use Rattle.cc_core.specs.Term.{Term}
use Rattle.cc_core.specs.Types.{BareType, bare}
use Rattle.cc_names.specs.declared.scope.ItemKind.{ItemKind}
use Rattle.cc_names.specs.declared.scope.ItemKind.TheVariants as item
use Rattle.cc_names.specs.declared.scope.Item.{Item}
use Rattle.cc_operations.specs.declared.source.Source.{Source}
use Rattle.cc_operations.specs.declared.source.Known.{Known}
use Rattle.cc_operations.specs.declared.source.Frame.{Frame}
use Rattle.cc_operations.specs.declared.source.Variable.{Variable}
use Rattle.cc_operations.specs.Choosing.{Pick, Types}
use Rattle.cc_operations.specs.Numbers.{core, is_void, written}
use Rattle.cc_operations.specs.Judgements.{Judged, refused, next}
use Rattle.cc_operations.specs.Operations.{no_conversion}
use Rattle.cc_statements.specs.declared.stand.Stand.{Stand}
use Rattle.cc_statements.specs.Steps.{local_id, scope, block_part}
use Rattle.cc_terms.specs.Resolving.{Finds}
use Rattle.cc_terms.specs.Ends.{block_way}
use Rattle.cc_typing_laws.specs.Contents.{Placed}

-- ---- their declarations

abbrev pub is_function : ItemKind → Bool
is_function (item.Function types) = true
is_function _ = false

-- a function of the source; what the library declares has an empty span at 0
abbrev pub is_own_function : Item → Bool
is_own_function one = is_function one.kind && nat_lt 0 one.span.past

-- the numbers of the declarations of the source's functions, in order, where the first has a number
abbrev pub numbers_from : ℕ → List Item → List ℕ
numbers_from number [] = []
numbers_from number (one ∷ items) = cond (is_own_function one) (number ∷ numbers_from (suc number) items) (numbers_from (suc number) items)

abbrev pub or_zero : Option ℕ → ℕ
or_zero None = 0
or_zero (Some number) = number

abbrev pub scope_of : Option Item → ℕ
scope_of None = 0
scope_of (Some one) = one.scope

abbrev pub parameter_types : Function → Types
parameter_types one = map (λ parameter. written parameter.of) one.parameters.items

abbrev pub known_as : Placed → ℕ → Known
known_as one number =
    record { name = one.function.name.name; path = one.path; parameters = parameter_types one.function; result = written one.function.result; number = number }

-- each function with the number of its declaration, where the first has a place
abbrev pub known_from : ℕ → List ℕ → List Placed → List Known
known_from at numbers [] = []
known_from at numbers (one ∷ more) = known_as one (or_zero (slice_get numbers at)) ∷ known_from (suc at) numbers more

-- ---- bodies

-- the parameters that have names, of which the first has a number
abbrev pub named_parameter : Option Identifier → FundamentalType → ℕ → List Variable
named_parameter None of number = []
named_parameter (Some name) of number = record { name = name.name; of = of; local = local_id number } ∷ []

abbrev pub parameters_from : ℕ → List Parameter → List Variable
parameters_from number [] = []
parameters_from number (one ∷ more) = named_parameter one.name (written one.of) number ++ parameters_from (suc number) more

abbrev pub frame_of : Placed → ℕ → Frame
frame_of one around =
    record {
      path = one.path;
      scope = around;
      result = written one.function.result;
      locals = parameter_types one.function;
      variables = parameters_from 0 one.function.parameters.items;
    }

-- around the body of a function nothing is aimed at by a `break` or a `continue`
abbrev pub outermost : Stand
outermost = record { breaks = false; continues = false; declares = true }

abbrev pub is_main : Placed → Bool
is_main one = bytes_eq one.path [] && bytes_eq one.function.name.name (codes "main")

-- a function with a result ends, `main` outside namespaces excepted
abbrev pub must_end : Placed → Bool
must_end one = not (is_void (written one.function.result)) && not (is_main one)

-- The typed body of a function.
pub record TypedBody : Type 0 where
  pub method : MethodId
  pub result : BareType
  pub locals : List BareType
  pub start : List Term
  pub body : Step

abbrev pub method_id : ℕ → MethodId
method_id number = record { 0 = number }

abbrev pub body_of : Placed → ℕ → Step → Frame → TypedBody
body_of one number body frame =
    record { method = method_id number; result = core (written one.function.result); locals = map core frame.locals; start = []; body = body }

-- what stands behind the body of a function
abbrev pub ended : Placed → ℕ → Step → Frame → Judged TypedBody
ended one number body frame = cond (must_end one && not (block_way one.body).ends) (refused kind.MissingReturn one.function.span) (Ok (body_of one number body frame))

-- the body of a function as the code holds it, without the places of its parts in memory
abbrev pub told_body : FunctionBody → TypedBody
told_body one = record { method = one.method; result = bare one.result; locals = map bare one.locals; start = map term_of one.start; body = step_of one.body }

module _ (pick : Pick) (finds : Finds) (source : Source) where
  -- a parameter has a value
  abbrev pub function_typed : Placed → ℕ → ℕ → Judged TypedBody
  function_typed one number around =
      cond (list_any is_void (parameter_types one.function)) (no_conversion one.function.span)
      (next (scope (block_part pick finds source one.body) outermost (frame_of one around)) (λ made. ended one number made.0 made.1))

  -- the functions in order of their numbers, each with the scope of its declaration, behind those that are typed
  abbrev pub bodies_from : List Item → List ℕ → ℕ → List Placed → List TypedBody → Judged (List TypedBody)
  bodies_from items numbers at [] done = Ok done
  bodies_from items numbers at (one ∷ more) done =
      next (function_typed one at (scope_of (slice_get items (or_zero (slice_get numbers at))))) (λ made. bodies_from items numbers (suc at) more (done ++ made ∷ []))
