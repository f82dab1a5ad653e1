-- What a whole source declares (ECMA-372, 10 and 25): its scopes, the unit first, and its declarations, each in order of place. The body of a template declares nothing, since only instances are
-- programs; nor do a prototype, a forward declaration or a using directive.
use Rattle.std.specs.Prelude.{ℕ, List, [], ◌∷◌, map, None}
use Rattle.cc_tree.specs.declared.unit.Unit.{Unit}
use Rattle.cc_tree.specs.declared.unit.Outer.{Outer, Outer-F, fold-Outer}
use Rattle.cc_tree.specs.declared.unit.Outer.TheOpen as o
use Rattle.cc_tree.specs.declared.unit.Template.{Template}
use Rattle.cc_tree.specs.declared.unit.Template.TheVariants as template
use Rattle.cc_tree.specs.declared.unit.TemplateParameter.{TemplateParameter}
use Rattle.cc_names.specs.declared.scope.Declared.{Declared}
use Rattle.cc_names.specs.declared.scope.ItemKind.TheVariants as kind
use Rattle.cc_names.specs.declared.scope.ScopeKind.TheVariants as scope
use Rattle.cc_names.specs.Parts.{Declares, nothing, named, both, inside, opening, in_order, added}
use Rattle.cc_names.specs.Collected.{with_scope}
use Rattle.cc_names.specs.Members.{class_declares, enumeration_declares, free_function_declares}

abbrev pub template_parameter_declares : TemplateParameter → Declares
template_parameter_declares one = named kind.TemplateParameter one.name.name one.name.span

abbrev pub template_declares : Template → Declares
template_declares (template.Class parameters class span) =
    both (inside scope.Template span (in_order (map template_parameter_declares parameters))) (named (kind.ClassTemplate class.key.word) class.name.name class.name.span)
template_declares (template.Function parameters function span) =
    both (inside scope.Template span (in_order (map template_parameter_declares parameters))) (named kind.FunctionTemplate function.name.name function.name.span)

abbrev pub outer_layer : Outer-F Declares → Declares
outer_layer (o.Using path span) = nothing
outer_layer (o.Namespace name outers span) = opening kind.Namespace name (scope.Namespace name.name) span (in_order outers)
outer_layer (o.Class class) = class_declares class
outer_layer (o.Enumeration enum) = enumeration_declares enum
outer_layer (o.VisibleClass visible class span) = class_declares class
outer_layer (o.VisibleEnumeration visible enum span) = enumeration_declares enum
outer_layer (o.Forward key name span) = nothing
outer_layer (o.Template template) = template_declares template
outer_layer (o.Function function) = free_function_declares function

abbrev pub outer_declares : Outer → Declares
outer_declares = fold-Outer Declares outer_layer

-- the scopes and declarations of a unit, without the library's
abbrev pub collected : Unit → Declared
collected unit =
    added (in_order (map outer_declares unit.outers)) 0 (record { scopes = record { kind = scope.Unit; parent = None; span = unit.span } ∷ []; items = [] })
