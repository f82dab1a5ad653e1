-- How many bytes the code of expressions and of regions takes, wherever it stands (ECMA-335, III.1.2): an instruction has one byte, or two, and its operand.
use Rattle.std.specs.Prelude.{ℕ, ◌+◌, ◌^◌, List, [], ◌∷◌, Bool, false, ◌&&◌, ◌||◌, nat_lt, Option, Some, None, if◌then◌else◌}
use Rattle.cc_core.specs.declared.tree.LoopKind.{LoopKind}
use Rattle.cc_core.specs.declared.tree.LoopKind.TheVariants.{TestFirst, BodyFirst}
use Rattle.cc_core.specs.declared.tree.SwitchLabel.{SwitchLabel}
use Rattle.cc_core.specs.declared.tree.SwitchLabel.TheVariants.{Case, Default}
use Rattle.cc_core.specs.declared.types.Operator.{Operator}
use Rattle.cc_core.specs.declared.types.Operator.TheVariants as op
use Rattle.cc_core.specs.declared.types.UnaryOperator.{UnaryOperator}
use Rattle.cc_core.specs.declared.types.UnaryOperator.TheVariants as unary
use Rattle.cc_core.specs.Numbers.{is_wide, is_shift}
use Rattle.cc_core.specs.Term as term
use Rattle.cc_core.specs.Term.{Term, Terms, type_of}
use Rattle.cc_core.specs.Types as type
use Rattle.cc_core.specs.Types.{BareType}
use Rattle.cc_region.specs.Region.{Region, Regions, Sections, Sequence, Do, Declare, If, Block, Switch, Loop, Break, Continue, Return, no_regions, next_region, no_sections, next_section}

-- ---- constants, conversions and operators

abbrev pub constant_size : BareType → ℕ
constant_size of = if is_wide of then 9 else 5

abbrev pub zero_size : BareType → ℕ
zero_size of = if is_wide of then 9 else 1

abbrev pub drop_size : BareType → ℕ
drop_size type.Void = 0
drop_size _ = 1

abbrev pub conversion_size : BareType → BareType → ℕ
conversion_size from type.Bool = zero_size from + 2
conversion_size from type.Void = 0
conversion_size from type.Null = 0
conversion_size from (type.Value of) = 0
conversion_size from (type.Handle of) = 0
conversion_size from (type.Array of) = 0
conversion_size from (type.Track of) = 0
conversion_size from _ = 1

abbrev pub operator_size : Operator → ℕ
operator_size op.Equal = 2
operator_size op.Less = 2
operator_size op.Greater = 2
operator_size op.NotEqual = 5
operator_size op.LessOrEqual = 5
operator_size op.GreaterOrEqual = 5
operator_size _ = 1

abbrev pub count_size : Operator → BareType → ℕ
count_size operator right = if is_shift operator && is_wide right then 1 else 0

abbrev pub unary_size : UnaryOperator → BareType → ℕ
unary_size unary.Negate of = 1
unary_size unary.Complement of = 1
unary_size unary.Not of = zero_size of + 2

-- ---- expressions

-- a variable is loaded or stored where the expression names one
abbrev pub variable_size : Term → ℕ
variable_size (term.Local of x) = 4
variable_size _ = 0

-- the truth of a value of a type
abbrev pub truth_size : BareType → ℕ
truth_size of = conversion_size of type.Bool

abbrev mutual
  pub term_size : Term → ℕ
  term_size (term.Number of n) = constant_size of
  term_size (term.Local of x) = 4
  term_size (term.Convert of operand) = term_size operand + conversion_size (type_of operand) of
  term_size (term.Unary of operator operand) = term_size operand + unary_size operator (type_of operand)
  term_size (term.Binary of operator left right) = term_size left + term_size right + count_size operator (type_of right) + operator_size operator
  term_size (term.And of first second) = term_size first + term_size second + truth_size (type_of second) + 11
  term_size (term.Or of first second) = term_size first + term_size second + truth_size (type_of second) + 11
  term_size (term.Choose of condition first second) = term_size condition + term_size first + term_size second + 10
  term_size (term.Assign of place value) = term_size value + variable_size place + 1
  term_size (term.Update of operator common result place operand) =
      term_size operand + variable_size place + variable_size place + conversion_size of common + count_size operator (type_of operand) + operator_size operator
      + conversion_size common of + 1
  term_size (term.Call of method dispatch arguments) = terms_size arguments + 5
  term_size (term.Library of member arguments) = terms_size arguments + 5
  term_size (term.Let of x first second) = term_size first + term_size second + 4
  term_size (term.Then of first second) = term_size first + term_size second + drop_size (type_of first)
  term_size _ = 0

  pub terms_size : Terms → ℕ
  terms_size term.no_terms = 0
  terms_size (term.next_term first rest) = term_size first + terms_size rest

-- an expression whose value is dropped
abbrev pub do_size : Term → ℕ
do_size e = term_size e + drop_size (type_of e)

abbrev pub do_if_size : Option Term → ℕ
do_if_size None = 0
do_if_size (Some e) = do_size e

-- ---- regions

abbrev pub initial_size : BareType → Option Term → ℕ
initial_size of None = zero_size of
initial_size of (Some e) = term_size e

abbrev pub return_size : Option Term → ℕ
return_size None = 1
return_size (Some e) = term_size e + 1

-- what a loop does after each turn, where it has a step: a loop that tests behind its body has none
abbrev pub step_of : LoopKind → Option Term → Option Term
step_of TestFirst after = after
step_of BodyFirst after = None

-- a loop that tests first begins with a branch to its test, which stands behind its body
abbrev pub entry_size : LoopKind → ℕ
entry_size TestFirst = 5
entry_size BodyFirst = 0

-- The label may be the operand's: it is a value of the operand's type.
abbrev pub is_tested : BareType → SwitchLabel → Bool
is_tested of Default = false
is_tested of (Case n) = is_wide of || nat_lt n (2 ^ 32)

-- the variable, the constant and the branch
abbrev pub test_size : BareType → SwitchLabel → ℕ
test_size of label = if is_tested of label then constant_size of + 9 else 0

abbrev pub labels_size : BareType → List SwitchLabel → ℕ
labels_size of [] = 0
labels_size of (label ∷ labels) = test_size of label + labels_size of labels

abbrev pub tests_size : BareType → Sections → ℕ
tests_size of no_sections = 0
tests_size of (next_section labels body rest) = labels_size of labels + tests_size of rest

abbrev mutual
  pub region_size : Region → ℕ
  region_size (Sequence regions) = regions_size regions
  region_size (Do e) = do_size e
  region_size (Declare x of e) = initial_size of e + 4
  region_size (If condition first second) = term_size condition + region_size second + region_size first + 11
  region_size (Block body) = region_size body + 1
  region_size (Switch x e sections) = term_size e + tests_size (type_of e) sections + sections_size sections + 10
  region_size (Loop kind condition after body) = entry_size kind + region_size body + do_if_size (step_of kind after) + term_size condition + 6
  region_size (Break number) = 5
  region_size (Continue number) = 5
  region_size (Return e) = return_size e
  region_size _ = 0

  pub regions_size : Regions → ℕ
  regions_size no_regions = 0
  regions_size (next_region first rest) = region_size first + regions_size rest

  pub sections_size : Sections → ℕ
  sections_size no_sections = 0
  sections_size (next_section labels body rest) = regions_size body + sections_size rest
