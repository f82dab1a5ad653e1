-- What stands outside classes declares, by its form.
use Rattle.std.proofs.Common.{◌≡◌, ℕ, sym, ap, ◌∙◌, List, map}
use Rattle.cc_base.specs.declared.text.Span.{Span}
use Rattle.cc_tree.specs.declared.identifier.Identifier.{Identifier}
use Rattle.cc_tree.specs.declared.class.Class.{Class}
use Rattle.cc_tree.specs.declared.class.ClassKey.{ClassKey}
use Rattle.cc_tree.specs.declared.class.Enumeration.{Enumeration}
use Rattle.cc_tree.specs.declared.unit.Visibility.{Visibility}
use Rattle.cc_tree.specs.declared.unit.Template.{Template}
use Rattle.cc_tree.specs.declared.unit.Function.{Function}
use Rattle.cc_tree.specs.declared.unit.Outer.{Outer, fold-roll-Outer}
use Rattle.cc_tree.specs.declared.unit.Outer.TheVariants as ov
use Rattle.cc_tree.specs.declared.unit.Outer.TheOpen as oo
use Rattle.cc_names.specs.declared.scope.ItemKind.TheVariants as kind
use Rattle.cc_names.specs.declared.scope.ScopeKind.TheVariants as scope
use Rattle.cc_names.specs.Parts.{Declares, nothing, opening, in_order}
use Rattle.cc_names.specs.Members.{class_declares, enumeration_declares, free_function_declares}
use Rattle.cc_names.specs.Units.{template_declares, outer_layer, outer_declares}

pub using_outer : (path : List Identifier) (span : Span) → outer_declares (ov.Using path span) ≡ nothing
using_outer path span = ap outer_declares (sym (ov.rolls-Using path span)) ∙ fold-roll-Outer Declares outer_layer (oo.Using path span)

pub namespace_outer : (name : Identifier) (outers : List Outer) (span : Span) → outer_declares (ov.Namespace name outers span) ≡ opening kind.Namespace name (scope.Namespace name.name) span (in_order (map outer_declares outers))
namespace_outer name outers span = ap outer_declares (sym (ov.rolls-Namespace name outers span)) ∙ fold-roll-Outer Declares outer_layer (oo.Namespace name outers span)

pub class_outer : (one : Class) → outer_declares (ov.Class one) ≡ class_declares one
class_outer one = ap outer_declares (sym (ov.rolls-Class one)) ∙ fold-roll-Outer Declares outer_layer (oo.Class one)

pub enumeration_outer : (enum : Enumeration) → outer_declares (ov.Enumeration enum) ≡ enumeration_declares enum
enumeration_outer enum = ap outer_declares (sym (ov.rolls-Enumeration enum)) ∙ fold-roll-Outer Declares outer_layer (oo.Enumeration enum)

pub visible_class_outer : (visible : Visibility) (one : Class) (span : Span) → outer_declares (ov.VisibleClass visible one span) ≡ class_declares one
visible_class_outer visible one span = ap outer_declares (sym (ov.rolls-VisibleClass visible one span)) ∙ fold-roll-Outer Declares outer_layer (oo.VisibleClass visible one span)

pub visible_enumeration_outer : (visible : Visibility) (enum : Enumeration) (span : Span) → outer_declares (ov.VisibleEnumeration visible enum span) ≡ enumeration_declares enum
visible_enumeration_outer visible enum span = ap outer_declares (sym (ov.rolls-VisibleEnumeration visible enum span)) ∙ fold-roll-Outer Declares outer_layer (oo.VisibleEnumeration visible enum span)

pub forward_outer : (key : ClassKey) (name : Identifier) (span : Span) → outer_declares (ov.Forward key name span) ≡ nothing
forward_outer key name span = ap outer_declares (sym (ov.rolls-Forward key name span)) ∙ fold-roll-Outer Declares outer_layer (oo.Forward key name span)

pub template_outer : (one : Template) → outer_declares (ov.Template one) ≡ template_declares one
template_outer one = ap outer_declares (sym (ov.rolls-Template one)) ∙ fold-roll-Outer Declares outer_layer (oo.Template one)

pub function_outer : (one : Function) → outer_declares (ov.Function one) ≡ free_function_declares one
function_outer one = ap outer_declares (sym (ov.rolls-Function one)) ∙ fold-roll-Outer Declares outer_layer (oo.Function one)

pub ruleset outers = (using_outer, namespace_outer, class_outer, enumeration_outer, visible_class_outer, visible_enumeration_outer, forward_outer, template_outer, function_outer)
