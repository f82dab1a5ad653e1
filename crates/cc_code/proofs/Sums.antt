-- The size of a part is the sum of the sizes of its instructions.
use Rattle.std.proofs.Common.{◌≡◌, ℕ, ◌+◌, ◌-◌, ◌%◌, ◌^◌, List, [], ◌∷◌, ◌++◌, Bool, true, false, refl, arith}
use Rattle.std.specs.Prelude.{ℤ, pos, nat_lt, if◌then◌else◌, ◌&&◌}
use Rattle.std.specs.Int.{w32, w64, cast_signed}
use Rattle.cc_cil.specs.declared.instruction.Instruction.{Instruction}
use Rattle.cc_cil.specs.declared.instruction.Instruction.TheVariants as the
use Rattle.cc_core.specs.declared.tree.Dispatch.{Dispatch}
use Rattle.cc_core.specs.declared.tree.Dispatch.TheVariants.{Direct, Virtual}
use Rattle.cc_core.specs.declared.tree.UpdateResult.{UpdateResult}
use Rattle.cc_core.specs.declared.tree.UpdateResult.TheVariants.{New, Old}
use Rattle.cc_core.specs.declared.types.Operator.{Operator}
use Rattle.cc_core.specs.declared.types.Operator.TheVariants as op
use Rattle.cc_core.specs.declared.types.UnaryOperator.{UnaryOperator}
use Rattle.cc_core.specs.declared.types.UnaryOperator.TheVariants as unary
use Rattle.cc_core.specs.Numbers.{is_wide, is_signed, is_shift}
use Rattle.cc_core.specs.Term as term
use Rattle.cc_core.specs.Term.{Term, Terms, type_of}
use Rattle.cc_core.specs.Types as type
use Rattle.cc_core.specs.Types.{BareType}
use Rattle.cc_code.specs.declared.tokens.Tokens.{Tokens}
use Rattle.cc_code.specs.Instructions.{width, bytes, branches}
use Rattle.cc_code.specs.Operators.{constant, zero, load, store, drop_value, keep_old, keep_new, conversion, operation, operator_code, denies, denial, count_code, unary_code, operated, changed}
use Rattle.cc_code.specs.Sizes.{constant_size, zero_size, drop_size, conversion_size, operator_size, count_size, unary_size, truth_size, variable_size, term_size, terms_size}
use Rattle.cc_code.specs.Terms.{variable_of, load_variable, store_variable, call, library_token, term_code, terms_code}

pub bytes-append : (a b : List Instruction) → bytes (a ++ b) ≡ bytes a + bytes b
bytes-append [] b = omega arith
bytes-append (i ∷ a) b = let h = bytes-append a b in omega arith

-- ---- constants, variables, conversions and operators

constant_width : (wide : Bool) (n m : ℤ) → width (if wide then the.LoadLong n else the.LoadInt m) ≡ (if wide then 9 else 5)
constant_width true n m = refl
constant_width false n m = refl

pub constant_is : (of : BareType) (n : ℕ) → width (constant of n) ≡ constant_size of
constant_is of n = constant_width (is_wide of) (cast_signed w64 n) (cast_signed w32 (n % 2 ^ 32))

zero_width : (wide : Bool) → width (if wide then the.LoadLong (pos 0) else the.LoadInt0) ≡ (if wide then 9 else 1)
zero_width true = refl
zero_width false = refl

pub zero_is : (of : BareType) → width (zero of) ≡ zero_size of
zero_is of = zero_width (is_wide of)

load_width : (first : Bool) (n m : ℕ) → width (if first then the.LoadArgument n else the.LoadLocal m) ≡ 4
load_width true n m = refl
load_width false n m = refl

pub load_is : (parameters x : ℕ) → width (load parameters x) ≡ 4
load_is parameters x = load_width (nat_lt x parameters) (x % 2 ^ 16) ((x - parameters) % 2 ^ 16)

store_width : (first : Bool) (n m : ℕ) → width (if first then the.StoreArgument n else the.StoreLocal m) ≡ 4
store_width true n m = refl
store_width false n m = refl

pub store_is : (parameters x : ℕ) → width (store parameters x) ≡ 4
store_is parameters x = store_width (nat_lt x parameters) (x % 2 ^ 16) ((x - parameters) % 2 ^ 16)

pub drop_is : (of : BareType) → bytes (drop_value of) ≡ drop_size of
drop_is type.Void = refl
drop_is type.Bool = refl
drop_is type.Char = refl
drop_is type.I8 = refl
drop_is type.U8 = refl
drop_is type.I16 = refl
drop_is type.U16 = refl
drop_is type.I32 = refl
drop_is type.U32 = refl
drop_is type.I64 = refl
drop_is type.U64 = refl
drop_is type.Null = refl
drop_is (type.Enum of) = refl
drop_is (type.Value of) = refl
drop_is (type.Handle of) = refl
drop_is (type.Array of) = refl
drop_is (type.Track of) = refl

widening_width : (signed : Bool) → width (if signed then the.ConvertI8 else the.ConvertU8) ≡ 1
widening_width true = refl
widening_width false = refl

pub conversion_is : (from to : BareType) → bytes (conversion from to) ≡ conversion_size from to
conversion_is from type.Void = refl
conversion_is from type.Bool = let a = zero_is from in omega arith
conversion_is from type.Char = refl
conversion_is from type.I8 = refl
conversion_is from type.U8 = refl
conversion_is from type.I16 = refl
conversion_is from type.U16 = refl
conversion_is from type.I32 = refl
conversion_is from type.U32 = refl
conversion_is from type.I64 = let a = widening_width (is_signed from) in omega arith
conversion_is from type.U64 = let a = widening_width (is_signed from) in omega arith
conversion_is from type.Null = refl
conversion_is from (type.Enum of) = refl
conversion_is from (type.Value of) = refl
conversion_is from (type.Handle of) = refl
conversion_is from (type.Array of) = refl
conversion_is from (type.Track of) = refl

operator_width : (signed : Bool) (operator : Operator) → bytes (operation signed operator ∷ (if denies operator then denial else [])) ≡ operator_size operator
operator_width signed op.Add = refl
operator_width signed op.Subtract = refl
operator_width signed op.Multiply = refl
operator_width true op.Divide = refl
operator_width false op.Divide = refl
operator_width true op.Remainder = refl
operator_width false op.Remainder = refl
operator_width signed op.And = refl
operator_width signed op.Or = refl
operator_width signed op.ExclusiveOr = refl
operator_width signed op.ShiftLeft = refl
operator_width true op.ShiftRight = refl
operator_width false op.ShiftRight = refl
operator_width signed op.Equal = refl
operator_width signed op.NotEqual = refl
operator_width true op.Less = refl
operator_width false op.Less = refl
operator_width true op.GreaterOrEqual = refl
operator_width false op.GreaterOrEqual = refl
operator_width true op.Greater = refl
operator_width false op.Greater = refl
operator_width true op.LessOrEqual = refl
operator_width false op.LessOrEqual = refl

pub operator_is : (of : BareType) (operator : Operator) → bytes (operator_code of operator) ≡ operator_size operator
operator_is of operator = operator_width (is_signed of) operator

count_width : (cut : Bool) → bytes (if cut then the.ConvertI4 ∷ [] else []) ≡ (if cut then 1 else 0)
count_width true = refl
count_width false = refl

pub count_is : (operator : Operator) (right : BareType) → bytes (count_code operator right) ≡ count_size operator right
count_is operator right = count_width (is_shift operator && is_wide right)

pub unary_is : (operator : UnaryOperator) (of : BareType) → bytes (unary_code operator of) ≡ unary_size operator of
unary_is unary.Negate of = refl
unary_is unary.Complement of = refl
unary_is unary.Not of = let a = zero_is of in omega arith

pub operated_is : (operator : Operator) (left right : BareType) (operand : List Instruction) → bytes (operated operator left right operand) ≡ bytes operand + count_size operator right + operator_size operator
operated_is operator left right operand =
    let a = bytes-append operand (count_code operator right ++ operator_code left operator) in
    let b = bytes-append (count_code operator right) (operator_code left operator) in
    let c = count_is operator right in
    let d = operator_is left operator in
    omega arith

keeps_is : (kept : UpdateResult) → bytes (keep_old kept) + bytes (keep_new kept) ≡ 1
keeps_is New = refl
keeps_is Old = refl

pub changed_is : (of : BareType) (operator : Operator) (common : BareType) (kept : UpdateResult) (right : BareType) (operand : List Instruction)
    → bytes (changed of operator common kept right operand) ≡ bytes operand + conversion_size of common + count_size operator right + operator_size operator + conversion_size common of + 1
changed_is of operator common kept right operand =
    let a = bytes-append (keep_old kept) (conversion of common ++ (operated operator common right operand ++ (conversion common of ++ keep_new kept))) in
    let b = bytes-append (conversion of common) (operated operator common right operand ++ (conversion common of ++ keep_new kept)) in
    let c = bytes-append (operated operator common right operand) (conversion common of ++ keep_new kept) in
    let d = bytes-append (conversion common of) (keep_new kept) in
    let f = conversion_is of common in
    let g = operated_is operator common right operand in
    let h = conversion_is common of in
    let i = keeps_is kept in
    omega arith

pub branches_is : (n m : ℕ) (first second : List Instruction) → bytes (branches n first m second) ≡ bytes second + bytes first + 10
branches_is n m first second = let a = bytes-append second (the.Branch (pos n) ∷ first) in omega arith

-- ---- expressions

load_variable_is : (parameters : ℕ) (place : Term) → bytes (load_variable parameters (variable_of place)) ≡ variable_size place
load_variable_is parameters (term.Local of x) = let a = load_is parameters x.0 in omega arith
load_variable_is parameters _ = refl

store_variable_is : (parameters : ℕ) (place : Term) → bytes (store_variable parameters (variable_of place)) ≡ variable_size place
store_variable_is parameters (term.Local of x) = let a = store_is parameters x.0 in omega arith
store_variable_is parameters _ = refl

call_is : (tokens : Tokens) (dispatch : Dispatch) (method : ℕ) → width (call tokens dispatch method) ≡ 5
call_is tokens Direct method = refl
call_is tokens Virtual method = refl

module _ (tokens : Tokens) (parameters : ℕ) where
  mutual
    pub term_is : (e : Term) → bytes (term_code tokens parameters e) ≡ term_size e
    term_is (term.Number of n) = let a = constant_is of n in omega arith
    term_is (term.Local of x) = let a = load_is parameters x.0 in omega arith
    term_is (term.Convert of operand) =
        let a = bytes-append (term_code tokens parameters operand) (conversion (type_of operand) of) in
        let b = term_is operand in
        let c = conversion_is (type_of operand) of in
        omega arith
    term_is (term.Unary of operator operand) =
        let a = bytes-append (term_code tokens parameters operand) (unary_code operator (type_of operand)) in
        let b = term_is operand in
        let c = unary_is operator (type_of operand) in
        omega arith
    term_is (term.Binary of operator left right) =
        let a = bytes-append (term_code tokens parameters left) (operated operator (type_of left) (type_of right) (term_code tokens parameters right)) in
        let b = operated_is operator (type_of left) (type_of right) (term_code tokens parameters right) in
        let c = term_is left in
        let d = term_is right in
        omega arith
    term_is (term.And of first second) =
        let truth = term_code tokens parameters second ++ conversion (type_of second) type.Bool in
        let n = term_size second + truth_size (type_of second) in
        let a = bytes-append (term_code tokens parameters first) (branches n truth 1 (the.LoadInt0 ∷ [])) in
        let b = branches_is n 1 truth (the.LoadInt0 ∷ []) in
        let c = bytes-append (term_code tokens parameters second) (conversion (type_of second) type.Bool) in
        let d = conversion_is (type_of second) type.Bool in
        let f = term_is first in
        let g = term_is second in
        omega arith
    term_is (term.Or of first second) =
        let truth = term_code tokens parameters second ++ conversion (type_of second) type.Bool in
        let n = term_size second + truth_size (type_of second) in
        let a = bytes-append (term_code tokens parameters first) (branches 1 (the.LoadInt1 ∷ []) n truth) in
        let b = branches_is 1 n (the.LoadInt1 ∷ []) truth in
        let c = bytes-append (term_code tokens parameters second) (conversion (type_of second) type.Bool) in
        let d = conversion_is (type_of second) type.Bool in
        let f = term_is first in
        let g = term_is second in
        omega arith
    term_is (term.Choose of condition first second) =
        let a = bytes-append (term_code tokens parameters condition) (branches (term_size first) (term_code tokens parameters first) (term_size second) (term_code tokens parameters second)) in
        let b = branches_is (term_size first) (term_size second) (term_code tokens parameters first) (term_code tokens parameters second) in
        let c = term_is condition in
        let d = term_is first in
        let f = term_is second in
        omega arith
    term_is (term.Assign of place value) =
        let a = bytes-append (term_code tokens parameters value) (the.Duplicate ∷ store_variable parameters (variable_of place)) in
        let b = term_is value in
        let c = store_variable_is parameters place in
        omega arith
    term_is (term.Update of operator common result place operand) =
        let code = term_code tokens parameters operand in
        let a = bytes-append (load_variable parameters (variable_of place)) (changed of operator common result (type_of operand) code ++ store_variable parameters (variable_of place)) in
        let b = bytes-append (changed of operator common result (type_of operand) code) (store_variable parameters (variable_of place)) in
        let c = changed_is of operator common result (type_of operand) code in
        let d = load_variable_is parameters place in
        let f = store_variable_is parameters place in
        let g = term_is operand in
        omega arith
    term_is (term.Call of method dispatch arguments) =
        let a = bytes-append (terms_code tokens parameters arguments) (call tokens dispatch method.0 ∷ []) in
        let b = terms_are arguments in
        let c = call_is tokens dispatch method.0 in
        omega arith
    term_is (term.Library of member arguments) =
        let a = bytes-append (terms_code tokens parameters arguments) (the.Call (library_token tokens member) ∷ []) in
        let b = terms_are arguments in
        omega arith
    term_is (term.Let of x first second) =
        let a = bytes-append (term_code tokens parameters first) (store parameters x.0 ∷ term_code tokens parameters second) in
        let b = store_is parameters x.0 in
        let c = term_is first in
        let d = term_is second in
        omega arith
    term_is (term.Then of first second) =
        let a = bytes-append (term_code tokens parameters first) (drop_value (type_of first) ++ term_code tokens parameters second) in
        let b = bytes-append (drop_value (type_of first)) (term_code tokens parameters second) in
        let c = drop_is (type_of first) in
        let d = term_is first in
        let f = term_is second in
        omega arith
    term_is (term.Literal of text) = refl
    term_is (term.Null of) = refl
    term_is (term.This of) = refl
    term_is (term.Field of field object) = refl
    term_is (term.StaticField of field) = refl
    term_is (term.Element of array index) = refl
    term_is (term.PlaceOf of operand) = refl
    term_is (term.HandleOf of operand) = refl
    term_is (term.New of made constructor arguments) = refl
    term_is (term.NewArray of element count) = refl
    term_is (term.ArrayOf of element elements) = refl
    term_is (term.Cast of kind operand) = refl

    pub terms_are : (arguments : Terms) → bytes (terms_code tokens parameters arguments) ≡ terms_size arguments
    terms_are term.no_terms = refl
    terms_are (term.next_term first rest) =
        let a = bytes-append (term_code tokens parameters first) (terms_code tokens parameters rest) in
        let b = term_is first in
        let c = terms_are rest in
        omega arith
