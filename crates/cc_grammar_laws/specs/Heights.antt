-- The heights of the parser's values, and from them the least depth of the trees to come.
use Rattle.std.specs.Prelude.{ℕ, zero, suc, ◌+◌, max, min, List, [], ◌∷◌, map, drop, Bool, true, false, cond, leb}
use Rattle.cc_tree.specs.declared.expression.BinaryOperator.TheVariants as b
use Rattle.cc_tree.specs.Operators.{level}
use Rattle.cc_tree.specs.declared.statement.Section.{Section, fold-Section}
use Rattle.cc_tree.specs.declared.statement.Catch.{Catch, fold-Catch}
use Rattle.cc_tree.specs.Depth.{greatest, optional_of, type_depth, type_arguments_depth, expression_depth, arguments_depth, statement_depth, statement_layer, block_depth, block_layer, catch_layer, section_layer, label_depth, local_depth, declarator_depth, start_depth, caught_depth, parameter_depth, parameters_depth, overridden_depth, named_function_depth, accessor_depth, member_initializer_depth, property_name_depth, member_depth, base_depth, class_depth, enumerator_depth, enumeration_depth, function_depth, template_parameter_depth, template_depth, outer_depth, unit_depth}
use Rattle.cc_table.specs.declared.symbols.Sort.{Sort}
use Rattle.cc_table.specs.declared.symbols.Sort.TheVariants as o
use Rattle.cc_table.specs.declared.symbols.Input.{Input}
use Rattle.cc_table.specs.declared.symbols.Input.TheVariants as i
use Rattle.cc_table.specs.declared.symbols.Symbol.{Symbol}
use Rattle.cc_table.specs.declared.symbols.Symbol.TheVariants.{Non, Act, Back}
use Rattle.cc_table.specs.Sizes.{uses, nests, leaves, takes, receives, adds, least}
use Rattle.cc_table.specs.declared.sizes.Remains.{Remains}
use Rattle.cc_table.specs.declared.sizes.Remains.TheVariants.{Nothing, OneValue, OneInput}
use Rattle.cc_pushdown.specs.declared.value.Value.{Value}
use Rattle.cc_pushdown.specs.declared.value.Value.TheVariants as v
use Rattle.cc_pushdown.specs.Machine.{Fed, fed}

abbrev pub section_depth : Section → ℕ
section_depth = fold-Section ℕ ℕ ℕ ℕ statement_layer block_layer catch_layer section_layer

abbrev pub catch_depth : Catch → ℕ
catch_depth = fold-Catch ℕ ℕ ℕ ℕ statement_layer block_layer catch_layer section_layer

-- How high a value is: the depth of its tree, or of the deepest of its trees. A token has no height, nor have modifiers,
-- since a function's parameters are at least as deep.
abbrev pub height : Value → ℕ
height (v.Type value) = type_depth value.tree
height (v.Types value) = greatest (map type_depth value)
height (v.TypeArguments value) = type_arguments_depth value
height (v.Expression value) = expression_depth value.tree
height (v.Expressions value) = greatest (map expression_depth value.tree)
height (v.Arguments value) = arguments_depth value
height (v.Statement value) = statement_depth value.tree
height (v.Statements value) = greatest (map statement_depth value)
height (v.Block value) = block_depth value.tree
height (v.Label value) = label_depth value
height (v.Labels value) = greatest (map label_depth value)
height (v.Sections value) = greatest (map section_depth value)
height (v.Local value) = local_depth value
height (v.Declarator value) = declarator_depth value
height (v.Declarators value) = greatest (map declarator_depth value.tree)
height (v.ForStart value) = start_depth value
height (v.Optional value) = optional_of expression_depth value.tree
height (v.Caught value) = caught_depth value
height (v.Catches value) = greatest (map catch_depth value.tree)
height (v.ParameterList value) = greatest (map parameter_depth value.tree)
height (v.Parameters value) = parameters_depth value
height (v.Overridden value) = optional_of overridden_depth value
height (v.NamedFunction value) = named_function_depth value
height (v.NamedFunctions value) = greatest (map named_function_depth value.tree)
height (v.Body value) = optional_of block_depth value.tree
height (v.Accessor value) = accessor_depth value
height (v.Accessors value) = greatest (map accessor_depth value)
height (v.Initializer value) = member_initializer_depth value
height (v.Initializers value) = greatest (map member_initializer_depth value)
height (v.PropertyType value) = type_depth value.tree
height (v.PropertyName value) = property_name_depth value
height (v.Member value) = member_depth value
height (v.Members value) = greatest (map member_depth value)
height (v.Key value) = 1
height (v.Base value) = base_depth value
height (v.Bases value) = greatest (map base_depth value)
height (v.Head value) = max 1 (greatest (map base_depth value.bases))
height (v.Class value) = class_depth value
height (v.Enumerator value) = enumerator_depth value
height (v.Enumerators value) = greatest (map enumerator_depth value)
height (v.Enumeration value) = enumeration_depth value
height (v.Function value) = function_depth value
height (v.TemplateParameter value) = template_parameter_depth value
height (v.TemplateParameters value) = greatest (map template_parameter_depth value)
height (v.Template value) = template_depth value.tree
height (v.Outer value) = outer_depth value.tree
height (v.Outers value) = greatest (map outer_depth value.tree)
height (v.Unit value) = unit_depth value
height _ = 0

-- Whether an input that is put back brings a tree with it.
abbrev pub is_tree : Input → Bool
is_tree i.CoreType = true
is_tree i.OperandType = true
is_tree i.PropertyType = true
is_tree _ = false

-- the height of the tree that the first input brings
abbrev pub waiting : List Fed → ℕ
waiting [] = 0
waiting (fed input value ∷ fs) = cond (is_tree input) (height value) 0

-- the height of the tree that waits in the input, and those of the values from the top
pub record Heights : Type 0 where
  pub pending : ℕ
  pub stack : List ℕ

abbrev pub heights : ℕ → List ℕ → Heights
heights pending stack = record { pending = pending; stack = stack }

abbrev pub heights_of : List Value → List Fed → Heights
heights_of vs fs = heights (waiting fs) (map height vs)

-- the greatest of the topmost
abbrev pub tallest : ℕ → List ℕ → ℕ
tallest zero stack = 0
tallest (suc n) [] = 0
tallest (suc n) (one ∷ stack) = max one (tallest n stack)

-- the least height of what a part leaves, from that of what it takes
abbrev pub part_height : Sort → Heights → ℕ
part_height sort h = max (least sort) (max (cond (receives sort) h.pending 0) (tallest (takes sort) h.stack) + adds sort)

abbrev pub left_over : Remains → ℕ → List ℕ → Heights
left_over Nothing height stack = heights 0 stack
left_over OneValue height stack = heights 0 (height ∷ stack)
left_over OneInput height stack = heights height stack

-- the least heights after a symbol
abbrev pub raised : Symbol → Heights → Heights
raised (Non sort) h = left_over (leaves sort) (part_height sort h) (drop (takes sort) h.stack)
raised (Act action) h = heights h.pending ((tallest (uses action) h.stack + nests action) ∷ drop (uses action) h.stack)
raised (Back input) h = heights (cond (is_tree input) (tallest 1 h.stack) 0) (drop 1 h.stack)

abbrev pub raised_all : List Symbol → Heights → Heights
raised_all [] h = h
raised_all (symbol ∷ more) h = raised_all more (raised symbol h)

-- the least depth of the trees that can still come
abbrev pub least_depth : List Symbol → Heights → ℕ
least_depth more h = tallest 1 (raised_all more h).stack

-- The least depth where an operator takes the topmost value: a node is made of that and an operand, which has a tree that waits or is a node too (ECMA-372, 15).
abbrev pub operator_taken : List Symbol → Heights → ℕ
operator_taken more h = least_depth more (heights 0 ((max (tallest 1 h.stack) (h.pending + 1) + 1) ∷ drop 1 h.stack))

-- The least depth where an operator of a level comes after the topmost value: the first part takes it that is no tighter. What waits stands behind the operator.
abbrev pub joined : ℕ → List Symbol → Heights → ℕ
joined tightness (Act action ∷ more) h = joined tightness more (raised (Act action) h)
joined tightness (Non o.SuffixRest ∷ more) h = joined tightness more h
joined tightness (Non o.AfterUnary ∷ more) h = operator_taken more h
joined tightness (Non (o.BinaryRest n) ∷ more) h = cond (leb n tightness) (operator_taken more h) (joined tightness more h)
joined tightness more h = least_depth more (heights 0 h.stack)

-- The least depth after a `<`: it begins types, which stand two deeper than the node's own, or is an operator after the node that is there without them.
abbrev pub after_less : ℕ → ℕ → List Symbol → Heights → ℕ
after_less bare taken more h =
    min (least_depth more (heights 0 (max bare (max 1 h.pending + 2) ∷ drop taken h.stack)))
    (joined (level b.Less) more (heights h.pending (bare ∷ drop taken h.stack)))

-- a name, the name of a member and the type that is created, each with a `<` after it
abbrev pub name_less : List Symbol → Heights → ℕ
name_less more h = after_less 1 2 more h

abbrev pub member_less : List Symbol → Heights → ℕ
member_less more h = after_less (tallest 3 (drop 1 h.stack) + 1) 4 more h

abbrev pub new_less : List Symbol → Heights → ℕ
new_less more h = after_less 2 3 more h

-- A `>` between operands is an operator, or begins one.
abbrev pub after_greater : List Symbol → List ℕ → ℕ
after_greater more stack = min (joined (level b.Greater) more (heights 0 stack)) (joined (level b.ShiftRight) more (heights 0 stack))

-- The least depth of the trees that can come after a token.
abbrev pub least_to_come : List Symbol → Heights → ℕ
least_to_come [] h = tallest 1 h.stack
least_to_come (Non o.GreaterEnd ∷ more) h = after_greater more (drop 1 h.stack)
least_to_come (Non o.AfterNameLess ∷ more) h = name_less more (heights 0 h.stack)
least_to_come (Non o.NameTypes ∷ more) h = name_less more h
least_to_come (Non o.AfterMemberLess ∷ more) h = member_less more (heights 0 h.stack)
least_to_come (Non o.MemberTypes ∷ more) h = member_less more h
least_to_come (Non o.AfterNewLess ∷ more) h = new_less more (heights 0 h.stack)
least_to_come (Non o.NewTypes ∷ more) h = new_less more h
least_to_come (symbol ∷ more) h = least_to_come more (raised symbol h)
