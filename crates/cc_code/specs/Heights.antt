-- The greatest number of values on the evaluation stack (ECMA-335, III.1.7.4).
use Rattle.std.specs.Prelude.{ℕ, ◌+◌, max, Option, Some, None}
use Rattle.cc_core.specs.declared.tree.UpdateResult.{UpdateResult}
use Rattle.cc_core.specs.declared.tree.UpdateResult.TheVariants.{New, Old}
use Rattle.cc_core.specs.declared.types.UnaryOperator.{UnaryOperator}
use Rattle.cc_core.specs.declared.types.UnaryOperator.TheVariants as unary
use Rattle.cc_core.specs.Term as term
use Rattle.cc_core.specs.Term.{Term, Terms, type_of}
use Rattle.cc_core.specs.Types as type
use Rattle.cc_core.specs.Types.{BareType}
use Rattle.cc_code.specs.Sizes.{step_of}
use Rattle.cc_region.specs.Region.{Region, Regions, Sections, Sequence, Do, Declare, If, Block, Switch, Loop, Return, no_regions, next_region, no_sections, next_section}

-- how many values an expression of a type leaves
abbrev pub values_of : BareType → ℕ
values_of type.Void = 0
values_of _ = 1

-- how many stand above what is there while a value becomes one of a type, the value included: at `bool` it is compared with zero
abbrev pub conversion_height : BareType → ℕ
conversion_height type.Bool = 2
conversion_height _ = 1

abbrev pub unary_height : UnaryOperator → ℕ
unary_height unary.Not = 2
unary_height unary.Complement = 1
unary_height unary.Negate = 1

-- what an update keeps under its operand
abbrev pub kept : UpdateResult → ℕ
kept New = 1
kept Old = 2

abbrev mutual
  -- how many stand above what is there while an expression is evaluated
  pub term_height : Term → ℕ
  term_height (term.Number of n) = 1
  term_height (term.Local of x) = 1
  term_height (term.Convert of operand) = max (term_height operand) (conversion_height of)
  term_height (term.Unary of operator operand) = max (term_height operand) (unary_height operator)
  term_height (term.Binary of operator left right) = max (term_height left) (term_height right + 1)
  term_height (term.And of first second) = max (term_height first) (max (term_height second) 2)
  term_height (term.Or of first second) = max (term_height first) (max (term_height second) 2)
  term_height (term.Choose of condition first second) = max (term_height condition) (max (term_height first) (term_height second))
  term_height (term.Assign of place value) = max (term_height value) 2
  term_height (term.Update of operator common result place operand) = term_height operand + kept result
  term_height (term.Call of method dispatch arguments) = max (terms_height arguments) (values_of of)
  term_height (term.Library of member arguments) = max (terms_height arguments) (values_of of)
  term_height (term.Let of x first second) = max (term_height first) (term_height second)
  term_height (term.Then of first second) = max (term_height first) (term_height second)
  term_height _ = 0

  pub terms_height : Terms → ℕ
  terms_height term.no_terms = 0
  terms_height (term.next_term first rest) = max (term_height first) (terms_height rest + values_of (type_of first))

abbrev pub height_if : Option Term → ℕ
height_if None = 0
height_if (Some e) = term_height e

-- The stack is empty between regions.
abbrev mutual
  pub region_height : Region → ℕ
  region_height (Sequence regions) = regions_height regions
  region_height (Do e) = term_height e
  region_height (Declare x of e) = max 1 (height_if e)
  region_height (If condition first second) = max (term_height condition) (max (region_height first) (region_height second))
  region_height (Block body) = region_height body
  -- a label is tested against the variable
  region_height (Switch x e sections) = max (max (term_height e) 2) (sections_height sections)
  region_height (Loop kind condition after body) = max (term_height condition) (max (height_if (step_of kind after)) (region_height body))
  region_height (Return e) = height_if e
  region_height _ = 0

  pub regions_height : Regions → ℕ
  regions_height no_regions = 0
  regions_height (next_region first rest) = max (region_height first) (regions_height rest)

  pub sections_height : Sections → ℕ
  sections_height no_sections = 0
  sections_height (next_section labels body rest) = max (regions_height body) (sections_height rest)
