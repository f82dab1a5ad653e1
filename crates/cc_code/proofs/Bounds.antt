-- At most 32 bytes for each expression, region, section's label and function.
use Rattle.std.proofs.Common.{ℕ, ◌+◌, ◌*◌, ◌≤◌, List, [], ◌∷◌, length, Bool, true, false, Option, Some, None, arith}
use Rattle.std.specs.Prelude.{◌&&◌, if◌then◌else◌}
use Rattle.cc_core.specs.declared.tree.LoopKind.{LoopKind}
use Rattle.cc_core.specs.declared.tree.LoopKind.TheVariants.{TestFirst, BodyFirst}
use Rattle.cc_core.specs.declared.tree.SwitchLabel.{SwitchLabel}
use Rattle.cc_core.specs.declared.types.Operator.{Operator}
use Rattle.cc_core.specs.declared.types.Operator.TheVariants as op
use Rattle.cc_core.specs.declared.types.UnaryOperator.{UnaryOperator}
use Rattle.cc_core.specs.declared.types.UnaryOperator.TheVariants as unary
use Rattle.cc_core.specs.Numbers.{is_wide, is_shift}
use Rattle.cc_core.specs.Term as term
use Rattle.cc_core.specs.Term.{Term, Terms, type_of}
use Rattle.cc_core.specs.Types as type
use Rattle.cc_core.specs.Types.{BareType, bare}
use Rattle.cc_region.specs.declared.tree.RegionFunction.{RegionFunction}
use Rattle.cc_region.specs.Bare.{region_of}
use Rattle.cc_region.specs.Region as region
use Rattle.cc_region.specs.Region.{Region, Regions, Sections}
use Rattle.cc_code.specs.Functions.{end_size, function_size}
use Rattle.cc_code.specs.Laws.{term_nodes, terms_nodes, nodes_if, region_nodes, regions_nodes, sections_nodes, function_nodes}
use Rattle.cc_code.specs.Sizes.{constant_size, zero_size, drop_size, conversion_size, operator_size, count_size, unary_size, variable_size, term_size, terms_size, do_if_size, step_of, initial_size, return_size, entry_size, is_tested, test_size, labels_size, tests_size, region_size, regions_size, sections_size}

choice_le : (b : Bool) (n m k : ℕ) → n ≤ k → m ≤ k → (if b then n else m) ≤ k
choice_le true n m k p q = p
choice_le false n m k p q = q

constant_le : (of : BareType) → constant_size of ≤ 9
constant_le of = choice_le (is_wide of) 9 5 9 (omega arith) (omega arith)

zero_le : (of : BareType) → zero_size of ≤ 9
zero_le of = choice_le (is_wide of) 9 1 9 (omega arith) (omega arith)

drop_le : (of : BareType) → drop_size of ≤ 1
drop_le type.Void = omega arith
drop_le _ = omega arith

conversion_le : (from to : BareType) → conversion_size from to ≤ 11
conversion_le from type.Bool = let a = zero_le from in omega arith
conversion_le from _ = omega arith

operator_le : (operator : Operator) → operator_size operator ≤ 5
operator_le op.Or = omega arith
operator_le op.ExclusiveOr = omega arith
operator_le op.And = omega arith
operator_le op.Equal = omega arith
operator_le op.NotEqual = omega arith
operator_le op.Less = omega arith
operator_le op.Greater = omega arith
operator_le op.LessOrEqual = omega arith
operator_le op.GreaterOrEqual = omega arith
operator_le op.ShiftLeft = omega arith
operator_le op.ShiftRight = omega arith
operator_le op.Add = omega arith
operator_le op.Subtract = omega arith
operator_le op.Multiply = omega arith
operator_le op.Divide = omega arith
operator_le op.Remainder = omega arith

count_le : (operator : Operator) (right : BareType) → count_size operator right ≤ 1
count_le operator right = choice_le (is_shift operator && is_wide right) 1 0 1 (omega arith) (omega arith)

unary_le : (operator : UnaryOperator) (of : BareType) → unary_size operator of ≤ 11
unary_le unary.Negate of = omega arith
unary_le unary.Complement of = omega arith
unary_le unary.Not of = let a = zero_le of in omega arith

variable_le : (place : Term) → variable_size place ≤ 4
variable_le (term.Local of x) = omega arith
variable_le _ = omega arith

-- loaded and stored
access_le : (place : Term) → variable_size place + variable_size place ≤ 8 * term_nodes place
access_le (term.Local of x) = omega arith
access_le _ = omega arith

entry_le : (kind : LoopKind) → entry_size kind ≤ 5
entry_le TestFirst = omega arith
entry_le BodyFirst = omega arith

test_le : (of : BareType) (label : SwitchLabel) → test_size of label ≤ 18
test_le of label = let a = constant_le of in choice_le (is_tested of label) (constant_size of + 9) 0 18 (omega arith) (omega arith)

labels_le : (of : BareType) (labels : List SwitchLabel) → labels_size of labels ≤ 32 * length labels
labels_le of [] = omega arith
labels_le of (label ∷ labels) = let a = test_le of label in let b = labels_le of labels in omega arith

end_most : (of : BareType) → zero_size of + 1 ≤ 10 → end_size of ≤ 10
end_most type.Void h = omega arith
end_most _ h = h

end_le : (of : BareType) → end_size of ≤ 10
end_le of = let a = zero_le of in end_most of (omega arith)

mutual
  term_le : (e : Term) → term_size e ≤ 32 * term_nodes e
  term_le (term.Number of n) = let a = constant_le of in omega arith
  term_le (term.Local of x) = omega arith
  term_le (term.Convert of operand) = let a = term_le operand in let b = conversion_le (type_of operand) of in omega arith
  term_le (term.Unary of operator operand) = let a = term_le operand in let b = unary_le operator (type_of operand) in omega arith
  term_le (term.Binary of operator left right) =
      let a = term_le left in let b = term_le right in let c = count_le operator (type_of right) in let d = operator_le operator in omega arith
  term_le (term.And of first second) = let a = term_le first in let b = term_le second in let c = conversion_le (type_of second) type.Bool in omega arith
  term_le (term.Or of first second) = let a = term_le first in let b = term_le second in let c = conversion_le (type_of second) type.Bool in omega arith
  term_le (term.Choose of condition first second) = let a = term_le condition in let b = term_le first in let c = term_le second in omega arith
  term_le (term.Assign of place value) = let a = term_le value in let b = variable_le place in omega arith
  term_le (term.Update of operator common result place operand) =
      let a = term_le operand in let b = access_le place in let c = conversion_le of common in let d = conversion_le common of in
      let f = count_le operator (type_of operand) in let g = operator_le operator in omega arith
  term_le (term.Call of method dispatch arguments) = let a = terms_le arguments in omega arith
  term_le (term.Library of member arguments) = let a = terms_le arguments in omega arith
  term_le (term.Let of x first second) = let a = term_le first in let b = term_le second in omega arith
  term_le (term.Then of first second) = let a = term_le first in let b = term_le second in let c = drop_le (type_of first) in omega arith
  term_le _ = omega arith

  terms_le : (arguments : Terms) → terms_size arguments ≤ 32 * terms_nodes arguments
  terms_le term.no_terms = omega arith
  terms_le (term.next_term first rest) = let a = term_le first in let b = terms_le rest in omega arith

do_if_le : (kind : LoopKind) (e : Option Term) → do_if_size (step_of kind e) ≤ 32 * nodes_if e + 1
do_if_le TestFirst None = omega arith
do_if_le TestFirst (Some e) = let a = term_le e in let b = drop_le (type_of e) in omega arith
do_if_le BodyFirst e = omega arith

initial_le : (of : BareType) (e : Option Term) → initial_size of e ≤ 32 * nodes_if e + 9
initial_le of None = let a = zero_le of in omega arith
initial_le of (Some e) = let a = term_le e in omega arith

return_le : (e : Option Term) → return_size e ≤ 32 * nodes_if e + 1
return_le None = omega arith
return_le (Some e) = let a = term_le e in omega arith

mutual
  region_le : (r : Region) → region_size r ≤ 32 * region_nodes r
  region_le (region.Sequence regions) = let a = regions_le regions in omega arith
  region_le (region.Do e) = let a = term_le e in let b = drop_le (type_of e) in omega arith
  region_le (region.Declare x of e) = let a = initial_le of e in omega arith
  region_le (region.If condition first second) = let a = term_le condition in let b = region_le first in let c = region_le second in omega arith
  region_le (region.Block body) = let a = region_le body in omega arith
  region_le (region.Switch x e sections) = let a = term_le e in let b = sections_le (type_of e) sections in omega arith
  region_le (region.Loop kind condition after body) =
      let a = term_le condition in let b = do_if_le kind after in let c = region_le body in let d = entry_le kind in omega arith
  region_le (region.Return e) = let a = return_le e in omega arith
  region_le _ = omega arith

  regions_le : (regions : Regions) → regions_size regions ≤ 32 * regions_nodes regions
  regions_le region.no_regions = omega arith
  regions_le (region.next_region first rest) = let a = region_le first in let b = regions_le rest in omega arith

  sections_le : (of : BareType) (sections : Sections) → tests_size of sections + sections_size sections ≤ 32 * sections_nodes sections
  sections_le of region.no_sections = omega arith
  sections_le of (region.next_section labels body rest) = let a = labels_le of labels in let b = regions_le body in let c = sections_le of rest in omega arith

pub function_le : (f : RegionFunction) → function_size f ≤ 32 * function_nodes f
function_le f = let a = region_le (region_of f.body) in let b = end_le (bare f.result) in omega arith
