-- The code of expressions keeps the rules.
use Rattle.std.proofs.Common.{◌≡◌, ℕ, ◌+◌, ◌≤◌, List, [], ◌∷◌, ◌++◌, Bool, true, false, length, map, reverse, max, Option, Some, None, refl, sym, ap, ◌∙◌, subst, arith, if◌then◌else◌, cond, slice_index}
use Rattle.std.proofs.lemmas.List.{reverse-append, length-map}
use Rattle.std.proofs.lemmas.Option.{same_Some}
use Rattle.cc_cil.specs.declared.instruction.Instruction.{Instruction}
use Rattle.cc_cil.specs.declared.instruction.Instruction.TheVariants as the
use Rattle.cc_core.specs.declared.tree.Dispatch.{Dispatch}
use Rattle.cc_core.specs.declared.tree.Dispatch.TheVariants.{Direct, Virtual}
use Rattle.cc_core.specs.declared.tree.UpdateResult.{UpdateResult}
use Rattle.cc_core.specs.declared.tree.UpdateResult.TheVariants.{New, Old}
use Rattle.cc_core.specs.declared.types.ClassInfo.{ClassInfo}
use Rattle.cc_core.specs.declared.types.Operator.{Operator}
use Rattle.cc_core.specs.declared.types.UnaryOperator.{UnaryOperator}
use Rattle.cc_core.specs.declared.types.UnaryOperator.TheVariants as unary
use Rattle.cc_core.specs.Term as term
use Rattle.cc_core.specs.Term.{Term, Terms, type_of}
use Rattle.cc_core.specs.Typed.{is_number, IsNumber, IsPromoted, compares, shifts, result_of, FitsRight, FitsAlone, IsTyped, AreTyped, AreNumbers, IsPlace, types_of, taken_by}
use Rattle.cc_core.specs.Types as type
use Rattle.cc_core.specs.Types.{BareType}
use Rattle.cc_code.specs.declared.tokens.Tokens.{Tokens}
use Rattle.cc_code.specs.Instructions.{bytes, branches, ahead}
use Rattle.cc_code.specs.Heights.{values_of, unary_height, kept, term_height, terms_height}
use Rattle.cc_code.specs.Operators.{constant, load, store, drop_value, conversion, operator_code, count_code, unary_code, changed}
use Rattle.cc_code.specs.Sizes.{term_size, truth_size}
use Rattle.cc_code.specs.Terms.{variable_of, load_variable, store_variable, call, library_token, term_code, terms_code}
use Rattle.cc_code.proofs.Sums.{bytes-append, conversion_is, term_is}
use Rattle.cc_verify.specs.declared.environment.Environment.{Environment}
use Rattle.cc_verify.specs.declared.environment.Frame.{Frame}
use Rattle.cc_verify.specs.declared.stack_type.StackType.{StackType}
use Rattle.cc_verify.specs.declared.stack_type.StackType.TheVariants.{Int32}
use Rattle.cc_verify.specs.declared.transition.Transition.TheVariants as to
use Rattle.cc_verify.specs.Transitions as transitions
use Rattle.cc_verify.specs.Transitions.{Stack, fits, same_integer, pop_arguments, push_result, result_count, parameter_count, callee_result_count, are_built, is_built_callee}
use Rattle.cc_verified_code.specs.Kinds.{kind, behind, behind_all, result_kind, parameter_kind, HasMethod, HasMethods, HasVariables}
use Rattle.cc_verified_code.specs.Rows.{Table, Takes}
use Rattle.cc_verified_code.specs.Flows.{Flows}
use Rattle.cc_verified_code.proofs.Pieces.{nothing, plain, chosen}
use Rattle.cc_verified_code.proofs.Operators.{number_behind, promoted_number, same_kind, let_through, branch_takes, branch_if_takes, push_takes, duplicate_takes, constant_flows, load_flows, store_flows, chain, drop_flows, conversion_flows, applied_flows, unary_flows, changed_flows}

-- ---- types

pub values_number : (of : BareType) → IsNumber of → values_of of ≡ 1
values_number type.Void n = let bad : false ≡ true = n in cc
values_number type.Bool n = refl
values_number type.Char n = refl
values_number type.I8 n = refl
values_number type.U8 n = refl
values_number type.I16 n = refl
values_number type.U16 n = refl
values_number type.I32 n = refl
values_number type.U32 n = refl
values_number type.I64 n = refl
values_number type.U64 n = refl
values_number type.Null n = let bad : false ≡ true = n in cc
values_number (type.Enum of) n = let bad : false ≡ true = n in cc
values_number (type.Value of) n = let bad : false ≡ true = n in cc
values_number (type.Handle of) n = let bad : false ≡ true = n in cc
values_number (type.Array of) n = let bad : false ≡ true = n in cc
values_number (type.Track of) n = let bad : false ≡ true = n in cc

pub behind_length : (of : BareType) (s : Stack) → length (behind of s) ≡ values_of of + length s
behind_length type.Void s = omega arith
behind_length type.Bool s = omega arith
behind_length type.Char s = omega arith
behind_length type.I8 s = omega arith
behind_length type.U8 s = omega arith
behind_length type.I16 s = omega arith
behind_length type.U16 s = omega arith
behind_length type.I32 s = omega arith
behind_length type.U32 s = omega arith
behind_length type.I64 s = omega arith
behind_length type.U64 s = omega arith
behind_length type.Null s = omega arith
behind_length (type.Enum of) s = omega arith
behind_length (type.Value of) s = omega arith
behind_length (type.Handle of) s = omega arith
behind_length (type.Array of) s = omega arith
behind_length (type.Track of) s = omega arith

result_pushed : (of : BareType) (s : Stack) → push_result (result_kind of) (Some s) ≡ Some (behind of s)
result_pushed type.Void s = refl
result_pushed type.Bool s = refl
result_pushed type.Char s = refl
result_pushed type.I8 s = refl
result_pushed type.U8 s = refl
result_pushed type.I16 s = refl
result_pushed type.U16 s = refl
result_pushed type.I32 s = refl
result_pushed type.U32 s = refl
result_pushed type.I64 s = refl
result_pushed type.U64 s = refl
result_pushed type.Null s = refl
result_pushed (type.Enum of) s = refl
result_pushed (type.Value of) s = refl
result_pushed (type.Handle of) s = refl
result_pushed (type.Array of) s = refl
result_pushed (type.Track of) s = refl

result_counted : (of : BareType) → result_count (result_kind of) ≡ values_of of
result_counted type.Void = refl
result_counted type.Bool = refl
result_counted type.Char = refl
result_counted type.I8 = refl
result_counted type.U8 = refl
result_counted type.I16 = refl
result_counted type.U16 = refl
result_counted type.I32 = refl
result_counted type.U32 = refl
result_counted type.I64 = refl
result_counted type.U64 = refl
result_counted type.Null = refl
result_counted (type.Enum of) = refl
result_counted (type.Value of) = refl
result_counted (type.Handle of) = refl
result_counted (type.Array of) = refl
result_counted (type.Track of) = refl

result_number : (operator : Operator) (left : BareType) → IsNumber left → IsNumber (result_of operator left)
result_number operator left n = by_test (compares operator)
  where
    by_test : (b : Bool) → is_number (cond b type.Bool left) ≡ true
    by_test true = refl
    by_test false = n

right_number : (operator : Operator) (left right : BareType) → IsPromoted left → FitsRight operator left right → IsNumber right
right_number operator left right p fits = by_test (shifts operator) fits
  where
    by_test : (b : Bool) → cond b (IsPromoted right) (right ≡ left) → IsNumber right
    by_test true h = promoted_number right h
    by_test false h = subst IsNumber (sym h) (promoted_number left p)

-- ---- calls

pop_more : (xs ys : List (Option StackType)) (s t : Stack) → pop_arguments xs s ≡ Some t → pop_arguments (xs ++ ys) s ≡ pop_arguments ys t
pop_more [] ys s t h = ap (pop_arguments ys) (same_Some s t h)
pop_more (p ∷ xs) ys [] t h = let bad : None ≡ Some t = h in cc
pop_more (p ∷ xs) ys (a ∷ s) t h = by_test (fits a p) h (pop_more xs ys s t)
  where
    by_test : (b : Bool) → (if b then pop_arguments xs s else None) ≡ Some t → (pop_arguments xs s ≡ Some t → pop_arguments (xs ++ ys) s ≡ pop_arguments ys t) → (if b then pop_arguments (xs ++ ys) s else None) ≡ pop_arguments ys t
    by_test true h rec = rec h
    by_test false h rec = let bad : None ≡ Some t = h in cc

pops : (given : List BareType) (s : Stack) → AreNumbers given → pop_arguments (reverse (map parameter_kind given)) (behind_all given s) ≡ Some s
pops [] s n = refl
pops (of ∷ given) s n =
    let last = parameter_kind of ∷ [] in
    let turned : reverse (parameter_kind of ∷ map parameter_kind given) ≡ reverse (map parameter_kind given) ++ last = reverse-append last (map parameter_kind given) in
    let rest = pops given (kind of ∷ s) n.1 in
    ap (λ r. pop_arguments r (behind_all given (behind of s))) turned
    ∙ (ap (λ t. pop_arguments (reverse (map parameter_kind given) ++ last) (behind_all given t)) (number_behind of s n.0)
    ∙ (pop_more (reverse (map parameter_kind given)) last (behind_all given (kind of ∷ s)) (kind of ∷ s) rest ∙ let_through (same_integer (kind of) (kind of)) s (same_kind _)))

all_length : (given : List BareType) (s : Stack) → AreNumbers given → length (behind_all given s) ≡ length given + length s
all_length [] s n = omega arith
all_length (of ∷ given) s n = let a = all_length given (behind of s) n.1 in let b = behind_length of s in let c = values_number of n.0 in omega (arith, a, b, c)

all_built : (given : List BareType) → are_built (map parameter_kind given) ≡ true
all_built [] = refl
all_built (of ∷ given) = all_built given

pub call_takes : (e : Environment) (f : Frame) (most token : ℕ) (given : List BareType) (result : BareType) (s : Stack) → HasMethod e token given result → length s + length given ≤ most → length s + values_of result ≤ most
    → Takes e f most (to.Call token) (behind_all given s) (behind result s)
call_takes e f most token given result s has h k =
    let size = all_length given s has.numbers in
    let size_behind = behind_length result s in
    let taken : parameter_count (transitions.method_of e token) ≡ length given = ap parameter_count has.is ∙ length-map given parameter_kind in
    let given_back : callee_result_count (transitions.method_of e token) ≡ values_of result = ap callee_result_count has.is ∙ result_counted result in
    record {
      does = ap (λ o. transitions.call o (behind_all given s)) has.is ∙ (ap (push_result (result_kind result)) (pops given s has.numbers) ∙ result_pushed result s);
      built = ap is_built_callee has.is ∙ all_built given;
      stores = refl;
      outside = refl;
      under = length s;
      taken = omega (arith, size, taken);
      given = omega (arith, size_behind, given_back);
      high = omega (arith, size, h);
      high_behind = omega (arith, size_behind, k);
    }

unary_least : (operator : UnaryOperator) (n : ℕ) → 1 ≤ max n (unary_height operator)
unary_least unary.Not n = omega arith
unary_least unary.Complement n = omega arith
unary_least unary.Negate n = omega arith

update_least : (result : UpdateResult) (n : ℕ) → 1 ≤ n + kept result
update_least New n = omega arith
update_least Old n = omega arith

kept_least : (result : UpdateResult) → 1 ≤ kept result
kept_least New = omega arith
kept_least Old = omega arith

virtual_is_not_direct : Virtual ≡ Direct → ⊥
virtual_is_not_direct h = let bad : false ≡ true = ap is_direct h in cc
  where
    is_direct : Dispatch → Bool
    is_direct Direct = true
    is_direct Virtual = false

alone_number : (operator : UnaryOperator) (operand result : BareType) → FitsAlone operator operand result → IsNumber operand × IsNumber result
alone_number unary.Not operand result h = (h.0, subst IsNumber (sym h.1) refl)
alone_number unary.Complement operand result h = let n = promoted_number operand h.0 in (n, subst IsNumber (sym h.1) n)
alone_number unary.Negate operand result h = let n = promoted_number operand h.0 in (n, subst IsNumber (sym h.1) n)

values_few : (of : BareType) → values_of of ≤ 1
values_few type.Void = omega arith
values_few type.Bool = omega arith
values_few type.Char = omega arith
values_few type.I8 = omega arith
values_few type.U8 = omega arith
values_few type.I16 = omega arith
values_few type.U16 = omega arith
values_few type.I32 = omega arith
values_few type.U32 = omega arith
values_few type.I64 = omega arith
values_few type.U64 = omega arith
values_few type.Null = omega arith
values_few (type.Enum of) = omega arith
values_few (type.Value of) = omega arith
values_few (type.Handle of) = omega arith
values_few (type.Array of) = omega arith
values_few (type.Track of) = omega arith

module _ (classes : List ClassInfo) (locals : List BareType) where
  -- a number takes at least one place of the stack
  pub height_least : (e : Term) → IsTyped classes locals e → IsNumber (type_of e) → 1 ≤ term_height e
  height_least (term.Number of n) t k = omega arith
  height_least (term.Local of x) t k = omega arith
  height_least (term.Convert of operand) t k = let a = height_least operand t.0 t.1 in omega (arith, a)
  height_least (term.Unary of operator operand) t k = unary_least operator (term_height operand)
  height_least (term.Binary of operator left right) t k = omega arith
  height_least (term.And of first second) t k = omega arith
  height_least (term.Or of first second) t k = omega arith
  height_least (term.Choose of condition first second) t k = let a = height_least condition t.0 t.3 in omega (arith, a)
  height_least (term.Assign of place value) t k = omega arith
  height_least (term.Update of operator common result place operand) t k = update_least result (term_height operand)
  height_least (term.Call of method dispatch arguments) t k = let a = values_number of k in omega (arith, a)
  height_least (term.Library of member arguments) t k = let a = values_number of k in omega (arith, a)
  height_least (term.Let of x first second) t k = let a = height_least second t.1 (subst IsNumber t.3 k) in omega (arith, a)
  height_least (term.Then of first second) t k = let a = height_least second t.1 (subst IsNumber t.2 k) in omega (arith, a)
  height_least (term.Literal of text) t k = absurd t
  height_least (term.Null of) t k = absurd t
  height_least (term.This of) t k = absurd t
  height_least (term.Field of field object) t k = absurd t
  height_least (term.StaticField of field) t k = absurd t
  height_least (term.Element of array index) t k = absurd t
  height_least (term.New of made constructor arguments) t k = absurd t
  height_least (term.NewArray of element count) t k = absurd t
  height_least (term.ArrayOf of element elements) t k = absurd t
  height_least (term.Cast of kind operand) t k = absurd t
  height_least (term.PlaceOf of operand) t k = absurd t
  height_least (term.HandleOf of operand) t k = absurd t

  -- what an expression leaves fits its height
  pub value_height : (e : Term) → IsTyped classes locals e → values_of (type_of e) ≤ term_height e
  value_height (term.Number of n) t = let a = values_few of in omega (arith, a)
  value_height (term.Local of x) t = let a = values_few of in omega (arith, a)
  value_height (term.Convert of operand) t = let a = values_few of in let b = height_least operand t.0 t.1 in omega (arith, a, b)
  value_height (term.Unary of operator operand) t = let a = values_few of in let b = unary_least operator (term_height operand) in omega (arith, a, b)
  value_height (term.Binary of operator left right) t = let a = values_few of in omega (arith, a)
  value_height (term.And of first second) t = let a = values_few of in omega (arith, a)
  value_height (term.Or of first second) t = let a = values_few of in omega (arith, a)
  value_height (term.Choose of condition first second) t = let a = values_few of in let b = height_least condition t.0 t.3 in omega (arith, a, b)
  value_height (term.Assign of place value) t = let a = values_few of in omega (arith, a)
  value_height (term.Update of operator common result place operand) t = let a = values_few of in let b = update_least result (term_height operand) in omega (arith, a, b)
  value_height (term.Call of method dispatch arguments) t = omega arith
  value_height (term.Library of member arguments) t = omega arith
  value_height (term.Let of x first second) t = let a = value_height second t.1 in let b : values_of of ≡ values_of (type_of second) = ap values_of t.3 in omega (arith, a, b)
  value_height (term.Then of first second) t = let a = value_height second t.1 in let b : values_of of ≡ values_of (type_of second) = ap values_of t.2 in omega (arith, a, b)
  value_height (term.Literal of text) t = absurd t
  value_height (term.Null of) t = absurd t
  value_height (term.This of) t = absurd t
  value_height (term.Field of field object) t = absurd t
  value_height (term.StaticField of field) t = absurd t
  value_height (term.Element of array index) t = absurd t
  value_height (term.New of made constructor arguments) t = absurd t
  value_height (term.NewArray of element count) t = absurd t
  value_height (term.ArrayOf of element elements) t = absurd t
  value_height (term.Cast of kind operand) t = absurd t
  value_height (term.PlaceOf of operand) t = absurd t
  value_height (term.HandleOf of operand) t = absurd t

  pub heights_least : (arguments : Terms) → AreTyped classes locals arguments → AreNumbers (types_of arguments) → length (types_of arguments) ≤ terms_height arguments
  heights_least term.no_terms t n = omega arith
  heights_least (term.next_term first rest) t n = let a = heights_least rest t.1 n.1 in let b = values_number (type_of first) n.0 in omega (arith, a, b)

-- the size of an expression's truth
pub truth_is : (tokens : Tokens) (parameters : ℕ) (e : Term) → bytes (term_code tokens parameters e ++ conversion (type_of e) type.Bool) ≡ term_size e + truth_size (type_of e)
truth_is tokens parameters e =
    let a = bytes-append (term_code tokens parameters e) (conversion (type_of e) type.Bool) in
    let b = term_is tokens parameters e in
    let c = conversion_is (type_of e) type.Bool in
    omega arith

module _ (e : Environment) (f : Frame) (most : ℕ) (Given : Table → Type 0) (classes : List ClassInfo) (tokens : Tokens) (locals : List BareType) (parameters : ℕ)
    (variables : HasVariables f locals parameters) (methods : HasMethods e classes tokens) where
  abbrev F : List Instruction → ℕ → Stack → Stack → Type 0
  F code lo s out = Flows e f most Given code lo s out

  abbrev code_of : Term → List Instruction
  code_of a = term_code tokens parameters a

  abbrev Typed : Term → Type 0
  Typed a = IsTyped classes locals a

  pub as_number : (a : Term) (code : List Instruction) (lo : ℕ) (s : Stack) → IsNumber (type_of a) → F code lo s (behind (type_of a) s) → F code lo s (kind (type_of a) ∷ s)
  as_number a code lo s n x = subst (λ (t : Stack). F code lo s t) (number_behind (type_of a) s n) x

  of_number : (of : BareType) (code : List Instruction) (lo : ℕ) (s : Stack) → IsNumber of → F code lo s (kind of ∷ s) → F code lo s (behind of s)
  of_number of code lo s n x = subst (λ (t : Stack). F code lo s t) (sym (number_behind of s n)) x

  of_type : (of other : BareType) (code : List Instruction) (lo : ℕ) (s : Stack) → of ≡ other → F code lo s (behind other s) → F code lo s (behind of s)
  of_type of other code lo s h x = subst (λ (t : BareType). F code lo s (behind t s)) (sym h) x

  store_place : (place : Term) (lo : ℕ) (s : Stack) → IsPlace place → Typed place → length s + 1 ≤ most → F (store_variable parameters (variable_of place)) lo (kind (type_of place) ∷ s) s
  store_place (term.Local of x) lo s p t h = store_flows e f most Given locals parameters variables x.0 of lo s t h
  store_place (term.Number of n) lo s p t h = absurd p
  store_place (term.Convert of operand) lo s p t h = absurd p
  store_place (term.Unary of operator operand) lo s p t h = absurd p
  store_place (term.Binary of operator left right) lo s p t h = absurd p
  store_place (term.And of first second) lo s p t h = absurd p
  store_place (term.Or of first second) lo s p t h = absurd p
  store_place (term.Choose of condition first second) lo s p t h = absurd p
  store_place (term.Assign of place value) lo s p t h = absurd p
  store_place (term.Update of operator common result place operand) lo s p t h = absurd p
  store_place (term.Call of method dispatch arguments) lo s p t h = absurd p
  store_place (term.Library of member arguments) lo s p t h = absurd p
  store_place (term.Let of x first second) lo s p t h = absurd p
  store_place (term.Then of first second) lo s p t h = absurd p
  store_place (term.Literal of text) lo s p t h = absurd p
  store_place (term.Null of) lo s p t h = absurd p
  store_place (term.This of) lo s p t h = absurd p
  store_place (term.Field of field object) lo s p t h = absurd p
  store_place (term.StaticField of field) lo s p t h = absurd p
  store_place (term.Element of array index) lo s p t h = absurd p
  store_place (term.New of made constructor arguments) lo s p t h = absurd p
  store_place (term.NewArray of element count) lo s p t h = absurd p
  store_place (term.ArrayOf of element elements) lo s p t h = absurd p
  store_place (term.Cast of kind operand) lo s p t h = absurd p
  store_place (term.PlaceOf of operand) lo s p t h = absurd p
  store_place (term.HandleOf of operand) lo s p t h = absurd p

  load_place : (place : Term) (lo : ℕ) (s : Stack) → IsPlace place → Typed place → length s + 1 ≤ most → F (load_variable parameters (variable_of place)) lo s (kind (type_of place) ∷ s)
  load_place (term.Local of x) lo s p t h = load_flows e f most Given locals parameters variables x.0 of lo s t h
  load_place (term.Number of n) lo s p t h = absurd p
  load_place (term.Convert of operand) lo s p t h = absurd p
  load_place (term.Unary of operator operand) lo s p t h = absurd p
  load_place (term.Binary of operator left right) lo s p t h = absurd p
  load_place (term.And of first second) lo s p t h = absurd p
  load_place (term.Or of first second) lo s p t h = absurd p
  load_place (term.Choose of condition first second) lo s p t h = absurd p
  load_place (term.Assign of place value) lo s p t h = absurd p
  load_place (term.Update of operator common result place operand) lo s p t h = absurd p
  load_place (term.Call of method dispatch arguments) lo s p t h = absurd p
  load_place (term.Library of member arguments) lo s p t h = absurd p
  load_place (term.Let of x first second) lo s p t h = absurd p
  load_place (term.Then of first second) lo s p t h = absurd p
  load_place (term.Literal of text) lo s p t h = absurd p
  load_place (term.Null of) lo s p t h = absurd p
  load_place (term.This of) lo s p t h = absurd p
  load_place (term.Field of field object) lo s p t h = absurd p
  load_place (term.StaticField of field) lo s p t h = absurd p
  load_place (term.Element of array index) lo s p t h = absurd p
  load_place (term.New of made constructor arguments) lo s p t h = absurd p
  load_place (term.NewArray of element count) lo s p t h = absurd p
  load_place (term.ArrayOf of element elements) lo s p t h = absurd p
  load_place (term.Cast of kind operand) lo s p t h = absurd p
  load_place (term.PlaceOf of operand) lo s p t h = absurd p
  load_place (term.HandleOf of operand) lo s p t h = absurd p

  place_number : (place : Term) → IsPlace place → Typed place → IsNumber (type_of place)
  place_number (term.Local of x) p t = variables.numbers x.0 of t
  place_number (term.Number of n) p t = absurd p
  place_number (term.Convert of operand) p t = absurd p
  place_number (term.Unary of operator operand) p t = absurd p
  place_number (term.Binary of operator left right) p t = absurd p
  place_number (term.And of first second) p t = absurd p
  place_number (term.Or of first second) p t = absurd p
  place_number (term.Choose of condition first second) p t = absurd p
  place_number (term.Assign of place value) p t = absurd p
  place_number (term.Update of operator common result place operand) p t = absurd p
  place_number (term.Call of method dispatch arguments) p t = absurd p
  place_number (term.Library of member arguments) p t = absurd p
  place_number (term.Let of x first second) p t = absurd p
  place_number (term.Then of first second) p t = absurd p
  place_number (term.Literal of text) p t = absurd p
  place_number (term.Null of) p t = absurd p
  place_number (term.This of) p t = absurd p
  place_number (term.Field of field object) p t = absurd p
  place_number (term.StaticField of field) p t = absurd p
  place_number (term.Element of array index) p t = absurd p
  place_number (term.New of made constructor arguments) p t = absurd p
  place_number (term.NewArray of element count) p t = absurd p
  place_number (term.ArrayOf of element elements) p t = absurd p
  place_number (term.Cast of kind operand) p t = absurd p
  place_number (term.PlaceOf of operand) p t = absurd p
  place_number (term.HandleOf of operand) p t = absurd p

  -- an expression, wherever it stands and whatever is under it
  abbrev Always : Term → Type 0
  Always a = (lo : ℕ) (s : Stack) → length s + term_height a ≤ most → F (code_of a) lo s (behind (type_of a) s)

  truth_flows : (a : Term) (lo : ℕ) (s : Stack) → IsNumber (type_of a) → length s + max (term_height a) 2 ≤ most → Always a → F (code_of a ++ conversion (type_of a) type.Bool) lo s (Int32 ∷ s)
  truth_flows a lo s n h x =
      chain e f most Given (code_of a) (conversion (type_of a) type.Bool) lo s (kind (type_of a) ∷ s) (Int32 ∷ s) (as_number a (code_of a) lo s n (x lo s (omega (arith, h))))
      (conversion_flows e f most Given (type_of a) type.Bool (lo + bytes (code_of a)) s refl (omega (arith, h)))

  -- one of two parts, by the truth of a condition
  by_condition : (condition : Term) (n m : ℕ) (first second : List Instruction) (lo : ℕ) (s out : Stack) → bytes first ≡ n → bytes second ≡ m → IsNumber (type_of condition) → length s + term_height condition ≤ most
      → length s + 1 ≤ most → length out ≤ most → Always condition → ((at : ℕ) → F first at s out) → ((at : ℕ) → F second at s out) → F (code_of condition ++ branches n first m second) lo s out
  by_condition condition n m first second lo s out size_first size_second number h low high c x y =
      let at = lo + bytes (code_of condition) in
      chain e f most Given (code_of condition) (branches n first m second) lo s (kind (type_of condition) ∷ s) out (as_number condition (code_of condition) lo s number (c lo s h))
      (chosen e f most Given n m first second at (kind (type_of condition)) s out size_first size_second (branch_if_takes e f most (ahead (m + 5)) (kind (type_of condition)) s low) (branch_takes e f most (ahead n) out high)
      (x (at + 10 + m)) (y (at + 5)))

  update_flows : (of : BareType) (operator : Operator) (common : BareType) (result : UpdateResult) (place operand : Term) (lo : ℕ) (s : Stack) → Typed (term.Update of operator common result place operand)
      → length s + (term_height operand + kept result) ≤ most → Always operand → F (code_of (term.Update of operator common result place operand)) lo s (behind of s)
  update_flows of operator common result place operand lo s t h x =
      let right = type_of operand in
      let change = changed of operator common result right (code_of operand) in
      let put = store_variable parameters (variable_of place) in
      let get = load_variable parameters (variable_of place) in
      let n = right_number operator common right t.5 t.7 in
      let least = height_least classes locals operand t.2 n in
      let low = update_least result (term_height operand) in
      let two = kept_least result in
      let at1 = lo + bytes get in
      let at2 = at1 + bytes change in
      let same : kind (type_of place) ≡ kind of = ap kind t.3 in
      of_number of (get ++ (change ++ put)) lo s t.4
      (chain e f most Given get (change ++ put) lo s (kind of ∷ s) (kind of ∷ s) (subst (λ (k : StackType). F get lo s (k ∷ s)) same (load_place place lo s t.0 t.1 (omega (arith, h, low))))
      (chain e f most Given change put at1 (kind of ∷ s) (kind of ∷ kind of ∷ s) (kind of ∷ s)
      (changed_flows e f most Given of operator common result right (code_of operand) at1 s t.4 t.5 t.6 t.7 (omega (arith, h, least))
      (λ at u few. as_number operand (code_of operand) at u n (x at u (omega (arith, h, few)))))
      (subst (λ (k : StackType). F put at2 (k ∷ kind of ∷ s) (kind of ∷ s)) same (store_place place at2 (kind of ∷ s) t.0 t.1 (omega (arith, h, least, two))))))

  mutual
    pub term_flows : (a : Term) → Typed a → Always a
    term_flows (term.Number of n) t lo s h = of_number of (constant of n ∷ []) lo s t.0 (constant_flows e f most Given of n lo s h)
    term_flows (term.Local of x) t lo s h = of_number of (load parameters x.0 ∷ []) lo s (variables.numbers x.0 of t) (load_flows e f most Given locals parameters variables x.0 of lo s t h)
    term_flows (term.Convert of operand) t lo s h =
        of_number of (code_of operand ++ conversion (type_of operand) of) lo s t.2
        (chain e f most Given (code_of operand) (conversion (type_of operand) of) lo s (kind (type_of operand) ∷ s) (kind of ∷ s) (as_number operand (code_of operand) lo s t.1 (term_flows operand t.0 lo s (omega (arith, h))))
        (conversion_flows e f most Given (type_of operand) of (lo + bytes (code_of operand)) s t.2 (omega (arith, h))))
    term_flows (term.Unary of operator operand) t lo s h =
        let n = alone_number operator (type_of operand) of t.1 in
        of_number of (code_of operand ++ unary_code operator (type_of operand)) lo s n.1
        (chain e f most Given (code_of operand) (unary_code operator (type_of operand)) lo s (kind (type_of operand) ∷ s) (kind of ∷ s) (as_number operand (code_of operand) lo s n.0 (term_flows operand t.0 lo s (omega (arith, h))))
        (unary_flows e f most Given operator (type_of operand) of (lo + bytes (code_of operand)) s t.1 (omega (arith, h))))
    term_flows (term.Binary of operator left right) t lo s h =
        let n = promoted_number (type_of left) t.2 in
        let m = right_number operator (type_of left) (type_of right) t.2 t.3 in
        let least = height_least classes locals right t.1 m in
        let applied = count_code operator (type_of right) ++ operator_code (type_of left) operator in
        let at1 = lo + bytes (code_of left) in
        of_type of (result_of operator (type_of left)) (code_of left ++ (code_of right ++ applied)) lo s t.4
        (of_number (result_of operator (type_of left)) (code_of left ++ (code_of right ++ applied)) lo s (result_number operator (type_of left) n)
        (chain e f most Given (code_of left) (code_of right ++ applied) lo s (kind (type_of left) ∷ s) (kind (result_of operator (type_of left)) ∷ s) (as_number left (code_of left) lo s n (term_flows left t.0 lo s (omega (arith, h))))
        (chain e f most Given (code_of right) applied at1 (kind (type_of left) ∷ s) (kind (type_of right) ∷ kind (type_of left) ∷ s) (kind (result_of operator (type_of left)) ∷ s)
        (as_number right (code_of right) at1 (kind (type_of left) ∷ s) m (term_flows right t.1 at1 (kind (type_of left) ∷ s) (omega (arith, h))))
        (applied_flows e f most Given operator (type_of left) (type_of right) (at1 + bytes (code_of right)) s t.3 (omega (arith, h, least))))))
    term_flows (term.And of first second) t lo s h =
        let truth = code_of second ++ conversion (type_of second) type.Bool in
        let n = term_size second + truth_size (type_of second) in
        of_type of type.Bool (code_of first ++ branches n truth 1 (the.LoadInt0 ∷ [])) lo s t.4
        (by_condition first n 1 truth (the.LoadInt0 ∷ []) lo s (Int32 ∷ s) (truth_is tokens parameters second) refl t.2 (omega (arith, h)) (omega (arith, h)) (omega (arith, h)) (term_flows first t.0)
        (λ at. truth_flows second at s t.3 (omega (arith, h)) (term_flows second t.1)) (λ at. plain e f most Given the.LoadInt0 at s (Int32 ∷ s) refl refl (push_takes e f most Int32 s (omega (arith, h)))))
    term_flows (term.Or of first second) t lo s h =
        let truth = code_of second ++ conversion (type_of second) type.Bool in
        let n = term_size second + truth_size (type_of second) in
        of_type of type.Bool (code_of first ++ branches 1 (the.LoadInt1 ∷ []) n truth) lo s t.4
        (by_condition first 1 n (the.LoadInt1 ∷ []) truth lo s (Int32 ∷ s) refl (truth_is tokens parameters second) t.2 (omega (arith, h)) (omega (arith, h)) (omega (arith, h)) (term_flows first t.0)
        (λ at. plain e f most Given the.LoadInt1 at s (Int32 ∷ s) refl refl (push_takes e f most Int32 s (omega (arith, h)))) (λ at. truth_flows second at s t.3 (omega (arith, h)) (term_flows second t.1)))
    term_flows (term.Choose of condition first second) t lo s h =
        let least = height_least classes locals condition t.0 t.3 in
        let long = behind_length of s in
        let few = values_few of in
        by_condition condition (term_size first) (term_size second) (code_of first) (code_of second) lo s (behind of s) (term_is tokens parameters first) (term_is tokens parameters second) t.3 (omega (arith, h)) (omega (arith, h, least))
        (omega (arith, h, long, few, least)) (term_flows condition t.0)
        (λ at. of_type of (type_of first) (code_of first) at s (sym t.4) (term_flows first t.1 at s (omega (arith, h)))) (λ at. of_type of (type_of second) (code_of second) at s (sym t.5) (term_flows second t.2 at s (omega (arith, h))))
    term_flows (term.Assign of place value) t lo s h =
        let put = store_variable parameters (variable_of place) in
        let n = place_number place t.0 t.1 in
        let m : IsNumber (type_of value) = subst IsNumber (t.3 ∙ sym t.4) n in
        let same : kind (type_of place) ≡ kind (type_of value) = ap kind (t.3 ∙ sym t.4) in
        let at1 = lo + bytes (code_of value) in
        let at2 = at1 + bytes (the.Duplicate ∷ []) in
        of_type of (type_of value) (code_of value ++ (the.Duplicate ∷ put)) lo s (sym t.4)
        (of_number (type_of value) (code_of value ++ (the.Duplicate ∷ put)) lo s m
        (chain e f most Given (code_of value) (the.Duplicate ∷ put) lo s (kind (type_of value) ∷ s) (kind (type_of value) ∷ s) (as_number value (code_of value) lo s m (term_flows value t.2 lo s (omega (arith, h))))
        (chain e f most Given (the.Duplicate ∷ []) put at1 (kind (type_of value) ∷ s) (kind (type_of value) ∷ kind (type_of value) ∷ s) (kind (type_of value) ∷ s)
        (plain e f most Given the.Duplicate at1 (kind (type_of value) ∷ s) (kind (type_of value) ∷ kind (type_of value) ∷ s) refl refl (duplicate_takes e f most (kind (type_of value)) s (omega (arith, h))))
        (subst (λ (k : StackType). F put at2 (k ∷ kind (type_of value) ∷ s) (kind (type_of value) ∷ s)) same (store_place place at2 (kind (type_of value) ∷ s) t.0 t.1 (omega (arith, h)))))))
    term_flows (term.Update of operator common result place operand) t lo s h = update_flows of operator common result place operand lo s t h (term_flows operand t.2)
    term_flows (term.Call of method Direct arguments) t lo s h =
        let m = methods.functions method (types_of arguments) of t.2 in
        let least = heights_least classes locals arguments t.1 m.numbers in
        let i = call tokens Direct method.0 in
        chain e f most Given (terms_code tokens parameters arguments) (i ∷ []) lo s (behind_all (types_of arguments) s) (behind of s) (terms_flow arguments t.1 m.numbers lo s (omega (arith, h)))
        (plain e f most Given i (lo + bytes (terms_code tokens parameters arguments)) (behind_all (types_of arguments) s) (behind of s) refl refl
        (call_takes e f most (slice_index tokens.functions method.0) (types_of arguments) of s m (omega (arith, h, least)) (omega (arith, h))))
    term_flows (term.Call of method Virtual arguments) t lo s h = absurd (virtual_is_not_direct t.0)
    term_flows (term.Library of member arguments) t lo s h =
        let m = methods.members member in
        let n : AreNumbers (types_of arguments) = subst AreNumbers (sym t.1) m.numbers in
        let least = heights_least classes locals arguments t.0 n in
        let i = the.Call (library_token tokens member) in
        let few : length (taken_by member) ≤ terms_height arguments = subst (λ (types : List BareType). length types ≤ terms_height arguments) t.1 least in
        of_type of type.Void (terms_code tokens parameters arguments ++ i ∷ []) lo s t.2
        (chain e f most Given (terms_code tokens parameters arguments) (i ∷ []) lo s (behind_all (types_of arguments) s) s (terms_flow arguments t.0 n lo s (omega (arith, h)))
        (plain e f most Given i (lo + bytes (terms_code tokens parameters arguments)) (behind_all (types_of arguments) s) s refl refl
        (subst (λ (types : List BareType). Takes e f most (to.Call (library_token tokens member)) (behind_all types s) s) (sym t.1) (call_takes e f most (library_token tokens member) (taken_by member) type.Void s m (omega (arith, h, few)) (omega (arith, h))))))
    term_flows (term.Let of x first second) t lo s h =
        let n = variables.numbers x.0 (type_of first) t.2 in
        let least = height_least classes locals first t.0 n in
        let at1 = lo + bytes (code_of first) in
        of_type of (type_of second) (code_of first ++ (store parameters x.0 ∷ code_of second)) lo s t.3
        (chain e f most Given (code_of first) (store parameters x.0 ∷ code_of second) lo s (kind (type_of first) ∷ s) (behind (type_of second) s) (as_number first (code_of first) lo s n (term_flows first t.0 lo s (omega (arith, h))))
        (chain e f most Given (store parameters x.0 ∷ []) (code_of second) at1 (kind (type_of first) ∷ s) s (behind (type_of second) s) (store_flows e f most Given locals parameters variables x.0 (type_of first) at1 s t.2 (omega (arith, h, least)))
        (term_flows second t.1 (at1 + bytes (store parameters x.0 ∷ [])) s (omega (arith, h)))))
    term_flows (term.Then of first second) t lo s h =
        let at1 = lo + bytes (code_of first) in
        let low = value_height classes locals first t.0 in
        let long = behind_length (type_of first) s in
        of_type of (type_of second) (code_of first ++ (drop_value (type_of first) ++ code_of second)) lo s t.2
        (chain e f most Given (code_of first) (drop_value (type_of first) ++ code_of second) lo s (behind (type_of first) s) (behind (type_of second) s) (term_flows first t.0 lo s (omega (arith, h)))
        (chain e f most Given (drop_value (type_of first)) (code_of second) at1 (behind (type_of first) s) s (behind (type_of second) s) (drop_flows e f most Given (type_of first) at1 s (omega (arith, h, low, long)))
        (term_flows second t.1 (at1 + bytes (drop_value (type_of first))) s (omega (arith, h)))))
    term_flows (term.Literal of text) t lo s h = absurd t
    term_flows (term.Null of) t lo s h = absurd t
    term_flows (term.This of) t lo s h = absurd t
    term_flows (term.Field of field object) t lo s h = absurd t
    term_flows (term.StaticField of field) t lo s h = absurd t
    term_flows (term.Element of array index) t lo s h = absurd t
    term_flows (term.New of made constructor arguments) t lo s h = absurd t
    term_flows (term.NewArray of element count) t lo s h = absurd t
    term_flows (term.ArrayOf of element elements) t lo s h = absurd t
    term_flows (term.Cast of kind operand) t lo s h = absurd t
    term_flows (term.PlaceOf of operand) t lo s h = absurd t
    term_flows (term.HandleOf of operand) t lo s h = absurd t

    pub terms_flow : (arguments : Terms) → AreTyped classes locals arguments → AreNumbers (types_of arguments) → (lo : ℕ) (s : Stack) → length s + terms_height arguments ≤ most → F (terms_code tokens parameters arguments) lo s (behind_all (types_of arguments) s)
    terms_flow term.no_terms t n lo s h = nothing e f most Given lo s
    terms_flow (term.next_term first rest) t n lo s h =
        let long = behind_length (type_of first) s in
        chain e f most Given (code_of first) (terms_code tokens parameters rest) lo s (behind (type_of first) s) (behind_all (types_of rest) (behind (type_of first) s)) (term_flows first t.0 lo s (omega (arith, h)))
        (terms_flow rest t.1 n.1 (lo + bytes (code_of first)) (behind (type_of first) s) (omega (arith, h, long)))
