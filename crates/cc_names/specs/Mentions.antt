-- What the types and namespaces that a source writes outside the bodies of templates are refused for, in order of place.
use Rattle.std.specs.Prelude.{ℕ, List, [], ◌∷◌, map, Option, Some, None, Bool, true, false, not}
use Rattle.std.specs.List.{list_any, list_all}
use Rattle.cc_base.specs.declared.text.Span.{Span}
use Rattle.cc_tree.specs.declared.identifier.Identifier.{Identifier}
use Rattle.cc_tree.specs.declared.type_name.TypeName.{TypeName}
use Rattle.cc_tree.specs.declared.type_name.TypeArguments.{TypeArguments}
use Rattle.cc_tree.specs.declared.expression.Expression.{Expression, Expression-F, fold-Expression}
use Rattle.cc_tree.specs.declared.expression.Expression.TheOpen as e
use Rattle.cc_tree.specs.declared.expression.Arguments.{Arguments, fold-Arguments}
use Rattle.cc_tree.specs.declared.statement.Statement.{Statement, Statement-F, fold-Statement}
use Rattle.cc_tree.specs.declared.statement.Statement.TheOpen as s
use Rattle.cc_tree.specs.declared.statement.Block.{Block, fold-Block}
use Rattle.cc_tree.specs.declared.statement.Catch.{Catch, fold-Catch}
use Rattle.cc_tree.specs.declared.statement.Section.{Section, fold-Section}
use Rattle.cc_tree.specs.declared.statement.Caught.{Caught}
use Rattle.cc_tree.specs.declared.statement.Caught.TheVariants as caught
use Rattle.cc_tree.specs.declared.statement.Label.{Label}
use Rattle.cc_tree.specs.declared.statement.Label.TheVariants as label
use Rattle.cc_tree.specs.declared.statement.ForStart.{ForStart}
use Rattle.cc_tree.specs.declared.statement.ForStart.TheVariants as start
use Rattle.cc_tree.specs.declared.statement.Local.{Local}
use Rattle.cc_tree.specs.declared.statement.Declarator.{Declarator}
use Rattle.cc_tree.specs.declared.statement.Initializer.{Initializer}
use Rattle.cc_tree.specs.declared.statement.Initializer.TheVariants as initial
use Rattle.cc_tree.specs.declared.member.Member.{Member}
use Rattle.cc_tree.specs.declared.member.Member.TheVariants as m
use Rattle.cc_tree.specs.declared.member.PropertyName.{PropertyName}
use Rattle.cc_tree.specs.declared.member.PropertyName.TheVariants as property_name
use Rattle.cc_tree.specs.declared.member.Accessor.{Accessor}
use Rattle.cc_tree.specs.declared.member.Parameters.{Parameters}
use Rattle.cc_tree.specs.declared.member.Parameter.{Parameter}
use Rattle.cc_tree.specs.declared.member.Overridden.{Overridden}
use Rattle.cc_tree.specs.declared.member.Overridden.TheVariants as over
use Rattle.cc_tree.specs.declared.member.NamedFunction.{NamedFunction}
use Rattle.cc_tree.specs.declared.member.MemberInitializer.{MemberInitializer}
use Rattle.cc_tree.specs.declared.member.MemberInitializer.TheVariants as init
use Rattle.cc_tree.specs.declared.class.Base.{Base}
use Rattle.cc_tree.specs.declared.class.Class.{Class}
use Rattle.cc_tree.specs.declared.unit.Function.{Function}
use Rattle.cc_names.specs.declared.refusal.NameKind.TheVariants as kind
use Rattle.cc_names.specs.declared.forming.Purpose.{Purpose}
use Rattle.cc_names.specs.declared.forming.Purpose.TheVariants as purpose
use Rattle.cc_names.specs.Checks.{Checks, none, refused_if, both, joined}
use Rattle.cc_names.specs.LibraryRows.{nowhere}
use Rattle.cc_names.specs.Outermost.{Path, is_path}
use Rattle.cc_names.specs.Spaces.{Space}
use Rattle.cc_names.specs.Forming.{type_checks}

-- what an optional part has
abbrev pub optional_of : {A : Type 0} → (A → Checks) → Option A → Checks
optional_of checks None = none
optional_of checks (Some x) = checks x

abbrev pub optional : Option Checks → Checks
optional None = none
optional (Some checks) = checks

abbrev pub path_span : List Identifier → Span
path_span [] = nowhere
path_span (name ∷ path) = name.span

abbrev pub has_initializer : Initializer → Bool
has_initializer initial.Nothing = false
has_initializer (initial.Value x) = true
has_initializer (initial.Elements arguments) = true
has_initializer (initial.Arguments items) = true

-- the namespaces before a name
abbrev pub path_checks : Space → List Identifier → Checks
path_checks space names = refused_if (not (list_any (λ path. is_path path names) space.paths)) kind.UnknownName (path_span names)

abbrev pub qualifier_checks : Space → List Identifier → Checks
qualifier_checks space [] = none
qualifier_checks space (name ∷ names) = path_checks space (name ∷ names)

-- what may be named, and the namespace around the place
module _ (space : Space) (path : Path) where
  abbrev pub written : Purpose → TypeName → Checks
  written = type_checks space path

  abbrev pub type_arguments_checks : TypeArguments → Checks
  type_arguments_checks arguments = joined (map (written purpose.Value) arguments.types)

  -- Expressions (ECMA-372, 15).
  abbrev pub expression_layer : Expression-F Checks Checks → Checks
  expression_layer (e.Assign left operator right span) = both left right
  expression_layer (e.Conditional condition first second span) = both condition (both first second)
  expression_layer (e.Binary left operator right span) = both left right
  expression_layer (e.Prefix operator x span) = x
  expression_layer (e.Cast of x span) = both (written purpose.Value of) x
  expression_layer (e.Index x y span) = both x y
  expression_layer (e.Call x arguments span) = both x arguments
  expression_layer (e.Member x selects name types span) = both x (optional_of type_arguments_checks types)
  expression_layer (e.Finaliser x selects name span) = x
  expression_layer (e.Postfix x operator span) = x
  expression_layer (e.Number number suffix radix span) = none
  expression_layer (e.Character unit span) = none
  expression_layer (e.Strings texts span) = none
  expression_layer (e.True span) = none
  expression_layer (e.False span) = none
  expression_layer (e.Nullptr span) = none
  expression_layer (e.This span) = none
  expression_layer (e.Group x span) = x
  expression_layer (e.Name names name types span) = both (qualifier_checks space names) (optional_of type_arguments_checks types)
  expression_layer (e.StaticMember of name span) = written purpose.NamedOnly of
  expression_layer (e.Construct of arguments span) = both (written purpose.Value of) arguments
  expression_layer (e.New of arguments elements span) = both (written purpose.NamedOnly of) (both (optional arguments) (optional elements))
  expression_layer (e.NamedCast word of x span) = both (written purpose.Value of) x

  abbrev pub arguments_layer : e.Arguments-F Checks Checks → Checks
  arguments_layer layer = joined layer.items

  abbrev pub expression_checks : Expression → Checks
  expression_checks = fold-Expression Checks Checks expression_layer arguments_layer

  abbrev pub arguments_checks : Arguments → Checks
  arguments_checks = fold-Arguments Checks Checks expression_layer arguments_layer

  -- Statements (ECMA-372, 16).
  abbrev pub initializer_checks : Initializer → Checks
  initializer_checks initial.Nothing = none
  initializer_checks (initial.Value x) = expression_checks x
  initializer_checks (initial.Elements arguments) = arguments_checks arguments
  initializer_checks (initial.Arguments items) = joined (map expression_checks items)

  abbrev pub declarator_checks : Declarator → Checks
  declarator_checks one = initializer_checks one.initializer

  abbrev pub local_checks : Local → Checks
  local_checks one =
      both (written (purpose.Local (list_all (λ declarator. has_initializer declarator.initializer) one.declarators)) one.of)
      (joined (map declarator_checks one.declarators))

  abbrev pub start_checks : ForStart → Checks
  start_checks start.Nothing = none
  start_checks (start.Local one) = local_checks one
  start_checks (start.Expression x) = expression_checks x

  abbrev pub caught_checks : Caught → Checks
  caught_checks caught.All = none
  caught_checks (caught.Typed of name) = written purpose.Value of

  abbrev pub label_checks : Label → Checks
  label_checks (label.Case x span) = expression_checks x
  label_checks (label.Default span) = none

  abbrev pub statement_layer : Statement-F Checks Checks Checks Checks → Checks
  statement_layer (s.Block block) = block
  statement_layer (s.Empty span) = none
  statement_layer (s.Local one span) = local_checks one
  statement_layer (s.Expression x span) = expression_checks x
  statement_layer (s.Delete x span) = expression_checks x
  statement_layer (s.If x first second span) = both (expression_checks x) (both first (optional second))
  statement_layer (s.While x body span) = both (expression_checks x) body
  statement_layer (s.Do body x span) = both body (expression_checks x)
  statement_layer (s.For begin condition advance body span) =
      both (start_checks begin) (both (optional_of expression_checks condition) (both (optional_of expression_checks advance) body))
  statement_layer (s.ForEach of name x body span) = both (written purpose.Value of) (both (expression_checks x) body)
  statement_layer (s.Switch x sections span) = both (expression_checks x) (joined sections)
  statement_layer (s.Break span) = none
  statement_layer (s.Continue span) = none
  statement_layer (s.Return x span) = optional_of expression_checks x
  statement_layer (s.Throw x span) = optional_of expression_checks x
  statement_layer (s.Try body catches at_last span) = both body (both (joined catches) (optional at_last))

  abbrev pub block_layer : s.Block-F Checks Checks Checks Checks → Checks
  block_layer layer = joined layer.statements

  abbrev pub catch_layer : s.Catch-F Checks Checks Checks Checks → Checks
  catch_layer layer = both (caught_checks layer.caught) layer.block

  abbrev pub section_layer : s.Section-F Checks Checks Checks Checks → Checks
  section_layer layer = both (joined (map label_checks layer.labels)) (joined layer.statements)

  abbrev pub statement_checks : Statement → Checks
  statement_checks = fold-Statement Checks Checks Checks Checks statement_layer block_layer catch_layer section_layer

  abbrev pub block_checks : Block → Checks
  block_checks = fold-Block Checks Checks Checks Checks statement_layer block_layer catch_layer section_layer

  abbrev pub catch_checks : Catch → Checks
  catch_checks = fold-Catch Checks Checks Checks Checks statement_layer block_layer catch_layer section_layer

  abbrev pub section_checks : Section → Checks
  section_checks = fold-Section Checks Checks Checks Checks statement_layer block_layer catch_layer section_layer

  -- Members of classes (ECMA-372, 18 and 19).
  abbrev pub parameter_checks : Parameter → Checks
  parameter_checks one = written purpose.Parameter one.of

  abbrev pub parameters_checks : Parameters → Checks
  parameters_checks parameters = joined (map parameter_checks parameters.items)

  abbrev pub named_function_checks : NamedFunction → Checks
  named_function_checks one = written purpose.NamedOnly one.class

  abbrev pub overridden_checks : Overridden → Checks
  overridden_checks (over.Pure span) = none
  overridden_checks (over.Functions functions span) = joined (map named_function_checks functions)

  -- a function's parameters and what follows them
  abbrev pub rest_checks : Parameters → Option Overridden → Option Block → Checks
  rest_checks parameters overridden body = both (parameters_checks parameters) (both (optional_of overridden_checks overridden) (optional_of block_checks body))

  abbrev pub member_initializer_checks : MemberInitializer → Checks
  member_initializer_checks (init.Member name arguments span) = arguments_checks arguments
  member_initializer_checks (init.Base of arguments span) = both (written purpose.NamedOnly of) (arguments_checks arguments)

  abbrev pub accessor_checks : Accessor → Checks
  accessor_checks accessor = both (written purpose.Result accessor.of) (rest_checks accessor.parameters accessor.overridden accessor.body)

  abbrev pub index_checks : PropertyName → Checks
  index_checks (property_name.Named name) = none
  index_checks (property_name.Indexed span of) = written purpose.Value of

  abbrev pub member_checks : Member → Checks
  member_checks (m.Access access span) = none
  member_checks (m.Fields is_static of names span) = written (purpose.Field is_static) of
  member_checks (m.Function storage of name parameters modifiers overridden body span) = both (written purpose.Result of) (rest_checks parameters overridden body)
  member_checks (m.Constructor name parameters initializers body span) =
      both (parameters_checks parameters) (both (joined (map member_initializer_checks initializers)) (block_checks body))
  member_checks (m.Destructor is_virtual name body span) = block_checks body
  member_checks (m.Finaliser name body span) = block_checks body
  member_checks (m.Property storage of name accessors span) = both (written purpose.Value of) (both (index_checks name) (joined (map accessor_checks accessors)))

  abbrev pub base_checks : Base → Checks
  base_checks base = written purpose.NamedOnly base.of

  abbrev pub class_checks : Class → Checks
  class_checks class = both (joined (map base_checks class.bases)) (joined (map member_checks class.members))

  -- also of a prototype
  abbrev pub function_checks : Function → Checks
  function_checks one = both (written purpose.Result one.result) (both (parameters_checks one.parameters) (optional_of block_checks one.body))
