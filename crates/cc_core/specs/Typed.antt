-- Which terms, statements and bodies are well typed, and which programs are fit (ECMA-372, 12, 14, 15 and 16), with a case for each form that is built. What isn't built yet is never well typed.
use Rattle.std.specs.Prelude.{◌≡◌, ℕ, zero, suc, ◌+◌, ◌<◌, ◌≤◌, ◌%◌, ◌^◌, List, [], ◌∷◌, ◌++◌, map, length, take, Contains, codes, Bool, true, false, ◌&&◌, not, cond, ⊤, Option, Some, None, slice_get, nat_eq}
use Rattle.std.specs.List.{flat_map}
use Rattle.cc_base.specs.declared.identifiers.LocalId.{LocalId}
use Rattle.cc_base.specs.declared.identifiers.MethodId.{MethodId}
use Rattle.cc_core.specs.declared.library_call.LibraryCall.{LibraryCall}
use Rattle.cc_core.specs.declared.library_call.LibraryCall.TheVariants.{Write, WriteLine, WriteEmptyLine}
use Rattle.cc_core.specs.declared.library_call.Printed.{Printed}
use Rattle.cc_core.specs.declared.library_call.Printed.TheVariants as printed
use Rattle.cc_core.specs.declared.tree.Dispatch.TheVariants.{Direct}
use Rattle.cc_core.specs.declared.tree.FunctionBody.{FunctionBody}
use Rattle.cc_core.specs.declared.tree.ProgramParts.{ProgramParts}
use Rattle.cc_core.specs.declared.tree.SwitchLabel.{SwitchLabel}
use Rattle.cc_core.specs.declared.tree.SwitchLabel.TheVariants.{Case, Default}
use Rattle.cc_core.specs.declared.types.ClassInfo.{ClassInfo}
use Rattle.cc_core.specs.declared.types.MethodInfo.{MethodInfo}
use Rattle.cc_core.specs.declared.types.Operator.{Operator}
use Rattle.cc_core.specs.declared.types.Operator.TheVariants as op
use Rattle.cc_core.specs.declared.types.UnaryOperator.{UnaryOperator}
use Rattle.cc_core.specs.declared.types.UnaryOperator.TheVariants as unary
use Rattle.cc_core.specs.Bare.{step_of}
use Rattle.cc_core.specs.Numbers.{narrowed}
use Rattle.cc_core.specs.Step as step
use Rattle.cc_core.specs.Step.{Step, Steps, Sections}
use Rattle.cc_core.specs.Term as term
use Rattle.cc_core.specs.Term.{Term, Terms, type_of}
use Rattle.cc_core.specs.Types as type
use Rattle.cc_core.specs.Types.{BareType, bare}
use Rattle.cc_core.specs.Value.{constant}

-- ---- types

-- `bool`, `wchar_t` and the integers
abbrev pub is_number : BareType → Bool
is_number type.Bool = true
is_number type.Char = true
is_number type.I8 = true
is_number type.U8 = true
is_number type.I16 = true
is_number type.U16 = true
is_number type.I32 = true
is_number type.U32 = true
is_number type.I64 = true
is_number type.U64 = true
is_number _ = false

-- the types in which operators work
abbrev pub is_promoted : BareType → Bool
is_promoted type.I32 = true
is_promoted type.U32 = true
is_promoted type.I64 = true
is_promoted type.U64 = true
is_promoted _ = false

abbrev pub IsNumber : BareType → Type 0
IsNumber of = is_number of ≡ true

abbrev pub IsPromoted : BareType → Type 0
IsPromoted of = is_promoted of ≡ true

-- the bits of a constant are those of a value of its type
abbrev pub IsConstant : BareType → ℕ → Type 0
IsConstant of n = narrowed of n ≡ Some (constant of n)

-- ---- operators

-- comparisons
abbrev pub compares : Operator → Bool
compares op.Equal = true
compares op.NotEqual = true
compares op.Less = true
compares op.Greater = true
compares op.LessOrEqual = true
compares op.GreaterOrEqual = true
compares _ = false

abbrev pub shifts : Operator → Bool
shifts op.ShiftLeft = true
shifts op.ShiftRight = true
shifts _ = false

-- a comparison gives a `bool`, another operator the type of its left operand
abbrev pub result_of : Operator → BareType → BareType
result_of operator left = cond (compares operator) type.Bool left

-- a shift has a count of any type in which operators work, another operator two operands of one type
abbrev pub FitsRight : Operator → BareType → BareType → Type 0
FitsRight operator left right = cond (shifts operator) (IsPromoted right) (right ≡ left)

abbrev pub FitsAlone : UnaryOperator → BareType → BareType → Type 0
FitsAlone unary.Not operand result = IsNumber operand × (result ≡ type.Bool)
FitsAlone unary.Complement operand result = IsPromoted operand × (result ≡ operand)
FitsAlone unary.Negate operand result = IsPromoted operand × (result ≡ operand)

-- ---- calls

-- the functions of all classes, in order of their numbers
abbrev pub methods_of : List ClassInfo → List MethodInfo
methods_of classes = flat_map (λ class. class.methods) classes

abbrev pub types_of : Terms → List BareType
types_of term.no_terms = []
types_of (term.next_term first rest) = type_of first ∷ types_of rest

-- a function of the program that takes arguments of these types, and gives this type
pub record IsCallable (classes : List ClassInfo) (method : MethodId) (given : List BareType) (result : BareType) : Type 0 where
  pub function : MethodInfo
  pub is : slice_get (methods_of classes) method.0 ≡ Some function
  pub has_body : function.has_body ≡ true
  pub parameters : map bare function.parameters ≡ given
  pub gives : bare function.result ≡ result

abbrev pub printed_type : Printed → BareType
printed_type printed.Bool = type.Bool
printed_type printed.Char = type.Char
printed_type printed.I32 = type.I32
printed_type printed.U32 = type.U32
printed_type printed.I64 = type.I64
printed_type printed.U64 = type.U64

-- the types of what a member of the library takes
abbrev pub taken_by : LibraryCall → List BareType
taken_by (Write of) = printed_type of ∷ []
taken_by (WriteLine of) = printed_type of ∷ []
taken_by WriteEmptyLine = []

-- ---- terms

-- a variable of a function whose variables have these types
abbrev pub IsVariable : List BareType → LocalId → BareType → Type 0
IsVariable locals local of = slice_get locals local.0 ≡ Some of

-- an expression that names a place
abbrev pub IsPlace : Term → Type 0
IsPlace (term.Local of local) = ⊤
IsPlace _ = ⊥

module _ (classes : List ClassInfo) (locals : List BareType) where
  abbrev mutual
    pub IsTyped : Term → Type 0
    IsTyped (term.Number of n) = IsNumber of × IsConstant of n
    IsTyped (term.Local of local) = IsVariable locals local of
    IsTyped (term.Convert of operand) = IsTyped operand × IsNumber (type_of operand) × IsNumber of
    IsTyped (term.Unary of operator operand) = IsTyped operand × FitsAlone operator (type_of operand) of
    IsTyped (term.Binary of operator left right) =
        IsTyped left × IsTyped right × IsPromoted (type_of left) × FitsRight operator (type_of left) (type_of right) × (of ≡ result_of operator (type_of left))
    IsTyped (term.And of first second) = IsTyped first × IsTyped second × IsNumber (type_of first) × IsNumber (type_of second) × (of ≡ type.Bool)
    IsTyped (term.Or of first second) = IsTyped first × IsTyped second × IsNumber (type_of first) × IsNumber (type_of second) × (of ≡ type.Bool)
    IsTyped (term.Choose of condition first second) =
        IsTyped condition × IsTyped first × IsTyped second × IsNumber (type_of condition) × (type_of first ≡ of) × (type_of second ≡ of)
    IsTyped (term.Assign of place value) = IsPlace place × IsTyped place × IsTyped value × (type_of place ≡ of) × (type_of value ≡ of)
    IsTyped (term.Update of operator common result place operand) =
        IsPlace place × IsTyped place × IsTyped operand × (type_of place ≡ of) × IsNumber of × IsPromoted common × (compares operator ≡ false) × FitsRight operator common (type_of operand)
    IsTyped (term.Call of method dispatch arguments) = (dispatch ≡ Direct) × AreTyped arguments × IsCallable classes method (types_of arguments) of
    IsTyped (term.Library of call arguments) = AreTyped arguments × (types_of arguments ≡ taken_by call) × (of ≡ type.Void)
    IsTyped (term.Let of local first second) = IsTyped first × IsTyped second × IsVariable locals local (type_of first) × (of ≡ type_of second)
    IsTyped (term.Then of first second) = IsTyped first × IsTyped second × (of ≡ type_of second)
    IsTyped _ = ⊥

    pub AreTyped : Terms → Type 0
    AreTyped term.no_terms = ⊤
    AreTyped (term.next_term first rest) = IsTyped first × AreTyped rest

  abbrev pub IsTypedIf : Option Term → Type 0
  IsTypedIf None = ⊤
  IsTypedIf (Some e) = IsTyped e

  -- an initialiser gives the type of its variable
  abbrev pub FitsVariable : BareType → Option Term → Type 0
  FitsVariable of None = ⊤
  FitsVariable of (Some e) = IsTyped e × (type_of e ≡ of)

  -- a function with a result returns a value of it, and one without none
  abbrev pub FitsResult : BareType → Option Term → Type 0
  FitsResult result None = result ≡ type.Void
  FitsResult result (Some e) = IsTyped e × IsNumber result × (type_of e ≡ result)

  abbrev pub IsCondition : Term → Type 0
  IsCondition e = IsTyped e × IsNumber (type_of e)

  -- ---- statements

  -- a label has the bits of a constant of the operand's type
  abbrev pub AreLabels : BareType → List SwitchLabel → Type 0
  AreLabels of [] = ⊤
  AreLabels of (Case n ∷ labels) = IsConstant of n × AreLabels of labels
  AreLabels of (Default ∷ labels) = AreLabels of labels

  -- What a statement needs around it: whether a `break` in it is aimed at something, whether a `continue` is, and the type of the function's result.
  module _ (result : BareType) where
    abbrev mutual
      pub IsSound : Bool → Bool → Step → Type 0
      IsSound breaks continues (step.Block steps) = AreSound breaks continues steps
      IsSound breaks continues (step.Do e) = IsTyped e
      IsSound breaks continues (step.Declare local of e) = IsVariable locals local of × IsNumber of × FitsVariable of e
      IsSound breaks continues (step.If condition first second) = IsCondition condition × IsSound breaks continues first × IsSound breaks continues second
      IsSound breaks continues (step.Loop kind condition after body) = IsCondition condition × IsTypedIf after × IsSound true true body
      IsSound breaks continues (step.Switch local e sections) = IsTyped e × IsPromoted (type_of e) × IsVariable locals local (type_of e) × AreSections continues (type_of e) sections
      IsSound breaks continues step.Break = breaks ≡ true
      IsSound breaks continues step.Continue = continues ≡ true
      IsSound breaks continues (step.Return e) = FitsResult result e
      IsSound breaks continues _ = ⊥

      pub AreSound : Bool → Bool → Steps → Type 0
      AreSound breaks continues step.no_steps = ⊤
      AreSound breaks continues (step.next_step first rest) = IsSound breaks continues first × AreSound breaks continues rest

      pub AreSections : Bool → BareType → Sections → Type 0
      AreSections continues of step.no_sections = ⊤
      AreSections continues of (step.next_section labels body rest) = AreLabels of labels × AreSound true continues body × AreSections continues of rest

-- all labels of a switch, in order
abbrev pub labels_of : Sections → List SwitchLabel
labels_of step.no_sections = []
labels_of (step.next_section labels body rest) = labels ++ labels_of rest

abbrev pub same_label : SwitchLabel → SwitchLabel → Bool
same_label (Case n) (Case m) = nat_eq n m
same_label Default Default = true
same_label _ _ = false

abbrev pub IsNew : SwitchLabel → List SwitchLabel → Type 0
IsNew label [] = ⊤
IsNew label (one ∷ labels) = (same_label label one ≡ false) × IsNew label labels

-- no label stands twice
abbrev pub AreDistinct : List SwitchLabel → Type 0
AreDistinct [] = ⊤
AreDistinct (label ∷ labels) = IsNew label labels × AreDistinct labels

-- a variable is declared by one of these statements themselves
abbrev pub declares : Steps → Bool
declares step.no_steps = false
declares (step.next_step (step.Declare local of e) rest) = true
declares (step.next_step _ rest) = declares rest

-- the last section alone declares variables directly
abbrev pub DeclareLast : Sections → Type 0
DeclareLast step.no_sections = ⊤
DeclareLast (step.next_section labels body step.no_sections) = ⊤
DeclareLast (step.next_section labels body (step.next_section others next rest)) = (declares body ≡ false) × DeclareLast (step.next_section others next rest)

-- the switches of a statement stand as they must
abbrev mutual
  pub HasProperSwitches : Step → Type 0
  HasProperSwitches (step.Block steps) = HaveProperSwitches steps
  HasProperSwitches (step.If condition first second) = HasProperSwitches first × HasProperSwitches second
  HasProperSwitches (step.Loop kind condition after body) = HasProperSwitches body
  HasProperSwitches (step.Switch local e sections) = AreDistinct (labels_of sections) × DeclareLast sections × SectionsHaveProperSwitches sections
  HasProperSwitches _ = ⊤

  pub HaveProperSwitches : Steps → Type 0
  HaveProperSwitches step.no_steps = ⊤
  HaveProperSwitches (step.next_step first rest) = HasProperSwitches first × HaveProperSwitches rest

  pub SectionsHaveProperSwitches : Sections → Type 0
  SectionsHaveProperSwitches step.no_sections = ⊤
  SectionsHaveProperSwitches (step.next_section labels body rest) = HaveProperSwitches body × SectionsHaveProperSwitches rest

-- ---- bodies and programs

abbrev pub AreNumbers : List BareType → Type 0
AreNumbers [] = ⊤
AreNumbers (of ∷ types) = IsNumber of × AreNumbers types

-- The body of a function: its variables are of types that are built, the parameters first, and its statements are sound.
pub record IsBody (classes : List ClassInfo) (body : FunctionBody) : Type 0 where
  pub function : MethodInfo
  pub is : slice_get (methods_of classes) body.method.0 ≡ Some function
  pub result : bare body.result ≡ bare function.result
  pub parameters : take (length function.parameters) (map bare body.locals) ≡ map bare function.parameters
  pub variables : AreNumbers (map bare body.locals)
  pub no_start : body.start ≡ []
  pub sound : IsSound classes (map bare body.locals) (bare body.result) false false (step_of body.body)
  pub switches : HasProperSwitches (step_of body.body)

abbrev pub AreBodies : List ClassInfo → List FunctionBody → Type 0
AreBodies classes [] = ⊤
AreBodies classes (body ∷ bodies) = IsBody classes body × AreBodies classes bodies

abbrev pub method_id : ℕ → MethodId
method_id number = record { 0 = number }

-- the numbers of the functions that have a body, where the first has a number
abbrev pub with_bodies : ℕ → List MethodInfo → List MethodId
with_bodies number [] = []
with_bodies number (function ∷ functions) = cond function.has_body (method_id number ∷ with_bodies (suc number) functions) (with_bodies (suc number) functions)

-- the number of `<Module>`, whose functions are those outside classes
abbrev pub module_number : ℕ
module_number = 28

-- the function of a number is one of a class
abbrev pub IsFunctionOf : List ClassInfo → ℕ → MethodId → Type 0
IsFunctionOf classes number method =
    («class» : ClassInfo) × (slice_get classes number ≡ Some «class») × (length (methods_of (take number classes)) ≤ method.0)
    × (method.0 < length (methods_of (take number classes)) + length «class».methods)

-- the function at which a program starts: outside classes, with a body, without parameters, with the result `int`
pub record IsMain (classes : List ClassInfo) (main : MethodId) : Type 0 where
  pub outside : IsFunctionOf classes module_number main
  pub function : MethodInfo
  pub is : slice_get (methods_of classes) main.0 ≡ Some function
  pub name : function.name ≡ codes "main"
  pub has_body : function.has_body ≡ true
  pub result : bare function.result ≡ type.I32
  pub parameters : function.parameters ≡ []

abbrev pub program_parts : List ClassInfo → List FunctionBody → MethodId → ProgramParts
program_parts classes bodies main = record { classes = classes; bodies = bodies; main = main }

-- What the parts of every program keep, beside what holds of all classes.
pub record IsProgram (parts : ProgramParts) : Type 0 where
  -- each function with a body has one, in order of the functions, and no other function has one
  pub each : map (λ body. body.method) parts.bodies ≡ with_bodies 0 (methods_of parts.classes)
  pub typed : AreBodies parts.classes parts.bodies
  pub main : IsMain parts.classes parts.main
