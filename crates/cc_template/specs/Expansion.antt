-- Units without templates (ECMA-372, 30). Such a unit is its own expansion, unless it has a node too many.
use Rattle.std.specs.Prelude.{◌≡◌, ℕ, ⊤, Bool, true, false, List, Option, Result, Ok, Err}
use Rattle.std.specs.List.{list_any}
use Rattle.cc_base.specs.declared.text.Span.{Span}
use Rattle.cc_tree.specs.declared.unit.Unit as unit
use Rattle.cc_tree.specs.declared.unit.Outer.{Outer, Outer-F, fold-Outer}
use Rattle.cc_tree.specs.declared.unit.Outer.TheOpen as o
use Rattle.cc_names.specs.Library.{declared}
use Rattle.cc_names.specs.Directives.{directives}
use Rattle.cc_names.specs.declared.declarations.Declarations.{Declarations}
use Rattle.cc_template.specs.Walk.{counted}
use Rattle.cc_template.specs.declared.fault.TemplateFault.{TemplateFault}
use Rattle.cc_template.specs.declared.fault.TemplateFault.TheVariants as fault

abbrev pub template_layer : Outer-F Bool → Bool
template_layer (o.Namespace name outers span) = list_any (λ has. has) outers
template_layer (o.Template template) = true
template_layer other = false

-- the declaration is a template, or a namespace with one in it or in its namespaces
abbrev pub has_template : Outer → Bool
has_template = fold-Outer Bool template_layer

abbrev pub IsWithoutTemplates : unit.Unit → Type 0
IsWithoutTemplates tree = list_any has_template tree.outers ≡ false

-- the declarations are those of the unit, with the library's
pub record AreOf (names : Declarations) (tree : unit.Unit) : Type 0 where
  pub scopes : names.scopes ≡ (declared tree).scopes
  pub items : names.items ≡ (declared tree).items
  pub directives : names.directives ≡ directives (declared tree).scopes (declared tree).items tree

-- the unit is given where no node makes a count pass its limit
abbrev pub IsExpanded : unit.Unit → unit.Unit → Type 0
IsExpanded tree expanded = (expanded ≡ tree) × ((count : ℕ) × (counted tree ≡ Ok count))

-- the first node that makes a count pass its limit, or want of memory
abbrev pub IsExpandFault : unit.Unit → TemplateFault → Type 0
IsExpandFault tree (fault.WrongArguments span) = ⊥
IsExpandFault tree (fault.TemplateDepth span) = ⊥
IsExpandFault tree (fault.TooManyNodes span) = counted tree ≡ Err span
IsExpandFault tree fault.Memory = ⊤
