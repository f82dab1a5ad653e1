-- The directives in what stands outside classes, by its form.
use Rattle.std.proofs.Common.{◌≡◌, ℕ, sym, ap, ◌∙◌, List, [], map}
use Rattle.cc_base.specs.declared.text.Span.{Span}
use Rattle.cc_tree.specs.declared.identifier.Identifier.{Identifier}
use Rattle.cc_tree.specs.declared.class.Class.{Class}
use Rattle.cc_tree.specs.declared.class.ClassKey.{ClassKey}
use Rattle.cc_tree.specs.declared.class.Enumeration.{Enumeration}
use Rattle.cc_tree.specs.declared.unit.Visibility.{Visibility}
use Rattle.cc_tree.specs.declared.unit.Template.{Template}
use Rattle.cc_tree.specs.declared.unit.Function.{Function}
use Rattle.cc_tree.specs.declared.unit.Outer.{Outer, fold-roll-Outer}
use Rattle.cc_tree.specs.declared.unit.Outer.TheVariants as ov
use Rattle.cc_tree.specs.declared.unit.Outer.TheOpen as oo
use Rattle.cc_names.specs.declared.scope.Scope.{Scope}
use Rattle.cc_names.specs.declared.scope.Item.{Item}
use Rattle.cc_names.specs.declared.lookup.Directive.{Directive}
use Rattle.cc_names.specs.Directives.{or_nothing, directive_of, all_directives, directives_layer, outer_directives}

module _ (scopes : List Scope) (items : List Item) where
  pub using_directives : (path : List Identifier) (span : Span) → outer_directives scopes items (ov.Using path span) ≡ or_nothing scopes items (directive_of scopes items path span)
  using_directives path span = ap (outer_directives scopes items) (sym (ov.rolls-Using path span)) ∙ fold-roll-Outer (List Directive) (directives_layer scopes items) (oo.Using path span)

  pub namespace_directives : (name : Identifier) (outers : List Outer) (span : Span) → outer_directives scopes items (ov.Namespace name outers span) ≡ all_directives scopes items (map (outer_directives scopes items) outers)
  namespace_directives name outers span = ap (outer_directives scopes items) (sym (ov.rolls-Namespace name outers span)) ∙ fold-roll-Outer (List Directive) (directives_layer scopes items) (oo.Namespace name outers span)

  pub class_directives : (one : Class) → outer_directives scopes items (ov.Class one) ≡ []
  class_directives one = ap (outer_directives scopes items) (sym (ov.rolls-Class one)) ∙ fold-roll-Outer (List Directive) (directives_layer scopes items) (oo.Class one)

  pub enumeration_directives : (enum : Enumeration) → outer_directives scopes items (ov.Enumeration enum) ≡ []
  enumeration_directives enum = ap (outer_directives scopes items) (sym (ov.rolls-Enumeration enum)) ∙ fold-roll-Outer (List Directive) (directives_layer scopes items) (oo.Enumeration enum)

  pub visible_class_directives : (visible : Visibility) (one : Class) (span : Span) → outer_directives scopes items (ov.VisibleClass visible one span) ≡ []
  visible_class_directives visible one span = ap (outer_directives scopes items) (sym (ov.rolls-VisibleClass visible one span)) ∙ fold-roll-Outer (List Directive) (directives_layer scopes items) (oo.VisibleClass visible one span)

  pub visible_enumeration_directives : (visible : Visibility) (enum : Enumeration) (span : Span) → outer_directives scopes items (ov.VisibleEnumeration visible enum span) ≡ []
  visible_enumeration_directives visible enum span = ap (outer_directives scopes items) (sym (ov.rolls-VisibleEnumeration visible enum span)) ∙ fold-roll-Outer (List Directive) (directives_layer scopes items) (oo.VisibleEnumeration visible enum span)

  pub forward_directives : (key : ClassKey) (name : Identifier) (span : Span) → outer_directives scopes items (ov.Forward key name span) ≡ []
  forward_directives key name span = ap (outer_directives scopes items) (sym (ov.rolls-Forward key name span)) ∙ fold-roll-Outer (List Directive) (directives_layer scopes items) (oo.Forward key name span)

  pub template_directives : (one : Template) → outer_directives scopes items (ov.Template one) ≡ []
  template_directives one = ap (outer_directives scopes items) (sym (ov.rolls-Template one)) ∙ fold-roll-Outer (List Directive) (directives_layer scopes items) (oo.Template one)

  pub function_directives : (one : Function) → outer_directives scopes items (ov.Function one) ≡ []
  function_directives one = ap (outer_directives scopes items) (sym (ov.rolls-Function one)) ∙ fold-roll-Outer (List Directive) (directives_layer scopes items) (oo.Function one)

pub ruleset directed = (using_directives, namespace_directives, class_directives, enumeration_directives, visible_class_directives, visible_enumeration_directives, forward_directives, template_directives, function_directives)
