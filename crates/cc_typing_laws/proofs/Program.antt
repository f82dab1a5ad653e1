-- A typed program is a program.
use Rattle.std.proofs.Common.{◌≡◌, ℕ, suc, ◌+◌, ◌<◌, Bool, true, false, cond, ◌&&◌, List, [], ◌∷◌, ◌++◌, map, length, take, codes, Option, Some, None, Ok, Err, slice_get, refl, sym, ap, ◌∙◌, subst, arith}
use Rattle.std.specs.Str.{bytes_eq}
use Rattle.std.proofs.Math.Seq.{take-append_seam}
use Rattle.std.proofs.lemmas.Bool.{false≢true}
use Rattle.std.proofs.lemmas.Slice.Eq.{bytes_eq-Decides}
use Rattle.cc_base.specs.declared.identifiers.MethodId.{MethodId}
use Rattle.cc_tree.specs.declared.member.Parameter.{Parameter}
use Rattle.cc_tree.specs.declared.type_name.FundamentalType.{FundamentalType}
use Rattle.cc_tree.specs.declared.type_name.FundamentalType.TheVariants as f
use Rattle.cc_tree.specs.declared.unit.Unit as unit
use Rattle.cc_core.specs.declared.tree.Expression.{Expression}
use Rattle.cc_core.specs.declared.tree.FunctionBody.{FunctionBody}
use Rattle.cc_core.specs.declared.tree.ProgramParts.{ProgramParts}
use Rattle.cc_core.specs.declared.types.ClassInfo.{ClassInfo}
use Rattle.cc_core.specs.Bare.{term_of}
use Rattle.cc_core.specs.Types.{BareType, bare}
use Rattle.cc_core.specs.Types as type
use Rattle.cc_core.specs.Term.{Term}
use Rattle.cc_core.specs.Typed.{methods_of, with_bodies, module_number, IsBody, AreBodies, IsFunctionOf, IsMain, IsProgram}
use Rattle.cc_names.specs.declared.scope.Item.{Item}
use Rattle.cc_operations.specs.declared.source.Source.{Source}
use Rattle.cc_operations.specs.Choosing.{Pick, Chooses}
use Rattle.cc_operations.specs.Numbers.{core, core_type, written}
use Rattle.cc_operations.specs.Judgements.{Judged, next}
use Rattle.cc_terms.specs.Resolving.{Finds}
use Rattle.cc_typing_laws.specs.Contents.{Placed, functions}
use Rattle.cc_typing_laws.specs.Functions.{TypedBody, told_body, parameter_types, numbers_from, is_main, method_id, bodies_from}
use Rattle.cc_typing_laws.specs.Programs.{function_info, module_class, classes_with, is_int, is_none, is_start, start_from, started_at, TypedProgram, program_bare, source_of, typed_with}
use Rattle.cc_typing_laws.proofs.Functions.{HasNone, HasParameters, all_methods, method_there, source_fits, bare_core}
use Rattle.cc_typing_laws.proofs.Bodies.{GoodBody, GoodBodies, valued_functions, bodies_good}
use Rattle.cc_typing_laws.proofs.Lists.{no_element, same_some, Each, get_next, length_map}
use Rattle.cc_typing_laws.proofs.Refusals.{Unless, next_unless}
use Rattle.cc_typing_laws.proofs.Tests.{both_true}

-- ---- bodies

no_terms : (xs : List Expression) → map term_of xs ≡ [] → xs ≡ []
no_terms [] e = refl
no_terms (x ∷ xs) e = absurd (no_rest (term_of x) (map term_of xs) e)
  where
    no_rest : (y : Term) (ys : List Term) → y ∷ ys ≡ [] → ⊥
    no_rest y ys e = cc

-- a body of a function that stands at a place of the classes
is_body : (classes : List ClassInfo) (number : ℕ) (one : Placed) (body : FunctionBody) → slice_get (methods_of classes) number ≡ Some (function_info one) → GoodBody classes number one (told_body body) → IsBody classes body
is_body classes number one body is h = record {
  function = function_info one;
  is = ap (λ (method : MethodId). slice_get (methods_of classes) method.0) h.method ∙ is;
  result = h.result;
  parameters = ap (λ count. take count (map bare body.locals)) (length_map core_type (parameter_types one.function)) ∙ h.parameters ∙ sym (bare_core (parameter_types one.function));
  variables = h.variables;
  no_start = no_terms body.start h.no_start;
  sound = h.sound;
  switches = h.switches;
}

are_bodies : (classes : List ClassInfo) (number : ℕ) (all : List Placed) (bodies : List FunctionBody) → ((at : ℕ) (one : Placed) → slice_get all at ≡ Some one → slice_get (methods_of classes) (at + number) ≡ Some (function_info one))
    → GoodBodies classes number all (map told_body bodies) → AreBodies classes bodies
are_bodies classes number [] [] there h = tt
are_bodies classes number [] (body ∷ bodies) there h = absurd h
are_bodies classes number (one ∷ all) [] there h = absurd h
are_bodies classes number (one ∷ all) (body ∷ bodies) there h = (
  is_body classes number one body (subst (λ n. slice_get (methods_of classes) n ≡ Some (function_info one)) (zero_before number) (there 0 one refl)) h.0,
  are_bodies classes (suc number) all bodies (λ at other e. subst (λ n. slice_get (methods_of classes) n ≡ Some (function_info other)) (suc_between at number) (there (suc at) other e)) h.1,
)
  where
    zero_before : (n : ℕ) → 0 + n ≡ n
    zero_before n = omega arith

    suc_between : (at n : ℕ) → suc at + n ≡ at + suc n
    suc_between at n = omega arith

-- each function has one, in order
each_body : (classes : List ClassInfo) (number : ℕ) (all : List Placed) (bodies : List FunctionBody) → GoodBodies classes number all (map told_body bodies) → map (λ body. body.method) bodies ≡ with_bodies number (map function_info all)
each_body classes number [] [] h = refl
each_body classes number [] (body ∷ bodies) h = absurd h
each_body classes number (one ∷ all) [] h = absurd h
each_body classes number (one ∷ all) (body ∷ bodies) h =
    ap (λ method. method ∷ map (λ (other : FunctionBody). other.method) bodies) h.0.method ∙ ap (λ methods. method_id number ∷ methods) (each_body classes (suc number) all bodies h.1)

-- ---- the function at which a program starts

record Start (all : List Placed) (number : ℕ) : Type 0 where
  one : Placed
  is : slice_get all number ≡ Some one
  within : number < length all
  begins : is_start one ≡ true

record StartFrom (first : ℕ) (all : List Placed) (number : ℕ) : Type 0 where
  at : ℕ
  number_is : number ≡ at + first
  start : Start all at

start_step : (first : ℕ) (one : Placed) (more : List Placed) (number : ℕ) (test : Bool) → is_start one ≡ test → (start_from (suc first) more ≡ Some number → StartFrom (suc first) more number)
    → cond test (Some first) (start_from (suc first) more) ≡ Some number → StartFrom first (one ∷ more) number
start_step first one more number true s behind e =
    record { at = 0; number_is = sym (same_some first number e) ∙ omega arith; start = record { one = one; is = refl; within = omega arith; begins = s } }
start_step first one more number false s behind e =
    let found = behind e in
    record { at = suc found.at; number_is = found.number_is ∙ omega arith; start = record { one = found.start.one; is = found.start.is; within = omega (arith, found.start.within); begins = found.start.begins } }

start_found : (first : ℕ) (all : List Placed) (number : ℕ) → start_from first all ≡ Some number → StartFrom first all number
start_found first [] number e = absurd (no_element number e)
start_found first (one ∷ more) number e = start_step first one more number (is_start one) refl (λ rest. start_found (suc first) more number rest) e

int_core : (of : FundamentalType) → is_int of ≡ true → core of ≡ type.I32
int_core f.Void e = absurd (false≢true e)
int_core f.Bool e = absurd (false≢true e)
int_core f.WideChar e = absurd (false≢true e)
int_core f.SignedChar e = absurd (false≢true e)
int_core f.UnsignedChar e = absurd (false≢true e)
int_core f.Short e = absurd (false≢true e)
int_core f.UnsignedShort e = absurd (false≢true e)
int_core f.Int e = refl
int_core f.UnsignedInt e = absurd (false≢true e)
int_core f.LongLong e = absurd (false≢true e)
int_core f.UnsignedLongLong e = absurd (false≢true e)

none_there : (parameters : List Parameter) → is_none parameters ≡ true → map core_type (map (λ parameter. written parameter.of) parameters) ≡ []
none_there [] e = refl
none_there (one ∷ more) e = absurd (false≢true e)

module _ (library : List ClassInfo) (none : HasNone library) (count : length library ≡ module_number) where
  outside : (all : List Placed) (number : ℕ) → number < length all → IsFunctionOf (classes_with library all) module_number (method_id number)
  outside all number within =
      let before : take module_number (classes_with library all) ≡ library = ap (λ n. take n (classes_with library all)) (sym count) ∙ take-append_seam library (module_class all ∷ []) in
      let few : length (methods_of (take module_number (classes_with library all))) ≡ 0 = ap (λ classes. length (methods_of classes)) before ∙ ap length none in
      let many : length (map function_info all) ≡ length all = length_map function_info all in (
        module_class all,
        ap (λ n. slice_get (classes_with library all) n) (sym count) ∙ get_next library [] (module_class all),
        omega (arith, few),
        omega (arith, few, many, within),
      )

  main_there : (all : List Placed) (number : ℕ) → Start all number → IsMain (classes_with library all) (method_id number)
  main_there all number start =
      let first = both_true (is_main start.one) (is_int (written start.one.function.result) && is_none start.one.function.parameters.items) start.begins in
      let last = both_true (is_int (written start.one.function.result)) (is_none start.one.function.parameters.items) first.1 in
      let named = both_true (bytes_eq start.one.path []) (bytes_eq start.one.function.name.name (codes "main")) first.0 in
      record {
        outside = outside all number start.within;
        function = function_info start.one;
        is = method_there library all none number start.one start.is;
        name = ap (λ path. path ++ start.one.function.name.name) ((bytes_eq-Decides start.one.path []).0 named.0) ∙ (bytes_eq-Decides start.one.function.name.name (codes "main")).0 named.1;
        has_body = refl;
        result = int_core (written start.one.function.result) last.0;
        parameters = none_there start.one.function.parameters.items last.1;
      }

  -- ---- programs

  record GoodProgram (all : List Placed) (made : TypedProgram) : Type 0 where
    classes : made.classes ≡ classes_with library all
    bodies : GoodBodies (classes_with library all) 0 all made.bodies
    main : (number : ℕ) × (made.main ≡ method_id number) × Start all number

  is_program : (all : List Placed) (parts : ProgramParts) → GoodProgram all (program_bare parts) → IsProgram parts
  is_program all parts h = record {
    each = each_body (classes_with library all) 0 all parts.bodies h.bodies ∙ ap (with_bodies 0) (sym (ap methods_of h.classes ∙ all_methods library all none));
    typed = subst (λ classes. AreBodies classes parts.bodies) (sym h.classes)
        (are_bodies (classes_with library all) 0 all parts.bodies (λ at one e. subst (λ n. slice_get (methods_of (classes_with library all)) n ≡ Some (function_info one)) (zero_behind at) (method_there library all none at one e)) h.bodies);
    main = subst (λ classes. IsMain classes parts.main) (sym h.classes) (subst (IsMain (classes_with library all)) (sym h.main.1) (main_there all h.main.0 h.main.2));
  }
    where
      zero_behind : (n : ℕ) → n ≡ n + 0
      zero_behind n = omega arith

  module _ (pick : Pick) (finds : Finds) (items : List Item) (tree : unit.Unit) (chooses : Chooses (classes_with library (functions tree)) pick) where
    abbrev source : Source
    source = source_of library tree (numbers_from 0 items)

    abbrev bodies : Judged (List TypedBody)
    bodies = bodies_from pick finds source items (numbers_from 0 items) 0 (functions tree) []

    abbrev made_of : List TypedBody → MethodId → TypedProgram
    made_of made main = record { classes = classes_with library (functions tree); bodies = made; main = main }

    -- a function at which a program starts
    abbrev IsStart : MethodId → Type 0
    IsStart main = (number : ℕ) × (main ≡ method_id number) × Start (functions tree) number

    started_good : (found : Option ℕ) → start_from 0 (functions tree) ≡ found → Unless IsStart (started_at tree.span found)
    started_good None e = tt
    started_good (Some number) e =
        let found = start_found 0 (functions tree) number e in
        (number, refl, subst (Start (functions tree)) (sym (found.number_is ∙ zero_behind found.at)) found.start)
      where
        zero_behind : (n : ℕ) → n + 0 ≡ n
        zero_behind n = omega arith

    -- what is made of a unit whose functions' parameters have values
    valued_good : Each HasParameters (functions tree) → Unless (GoodProgram (functions tree)) (typed_with pick library finds items tree)
    valued_good valued =
        next_unless (GoodBodies (classes_with library (functions tree)) 0 (functions tree)) (GoodProgram (functions tree)) bodies
        (λ made. next (started_at tree.span (start_from 0 (functions tree))) (λ main. Ok (made_of made main)))
        (bodies_good pick finds source items (numbers_from 0 items) (classes_with library (functions tree)) chooses (source_fits library (functions tree) (numbers_from 0 items) none valued) (functions tree))
        (λ made h. next_unless IsStart (GoodProgram (functions tree)) (started_at tree.span (start_from 0 (functions tree))) (λ main. Ok (made_of made main))
        (started_good (start_from 0 (functions tree)) refl) (λ main m. record { classes = refl; bodies = h; main = m }))

    valued_behind : (judged : Judged (List TypedBody)) (step : List TypedBody → Judged TypedProgram) → Unless (λ made. Each HasParameters (functions tree)) judged → (made : TypedProgram) → next judged step ≡ Ok made → Each HasParameters (functions tree)
    valued_behind (Ok all) step h made e = h
    valued_behind (Err refusal) step h made e = absurd (no_answer refusal made e)
      where
        no_answer : {A B : Type 0} (b : B) (a : A) → Err b ≡ Ok a → ⊥
        no_answer b a e = cc

    pub typed_is_program : (parts : ProgramParts) → typed_with pick library finds items tree ≡ Ok (program_bare parts) → IsProgram parts
    typed_is_program parts e =
        let valued = valued_behind bodies (λ made. next (started_at tree.span (start_from 0 (functions tree))) (λ main. Ok (made_of made main))) (valued_functions pick finds source items (numbers_from 0 items) (functions tree) 0 []) (program_bare parts) e in
        is_program (functions tree) parts (subst (Unless (GoodProgram (functions tree))) e (valued_good valued))
