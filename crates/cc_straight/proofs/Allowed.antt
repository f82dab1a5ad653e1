-- What the faults of names and of an expansion say of a tree.
use Rattle.std.proofs.Common.{◌≡◌, inl, inr, sym, ap, subst, ◌∙◌, true≢false}
use Rattle.std.specs.Prelude.{Option, Some, None, Err, true}
use Rattle.std.specs.List.{list_any}
use Rattle.cc_base.specs.declared.text.Span.{Span}
use Rattle.cc_base.specs.declared.kind.Kind.{Kind}
use Rattle.cc_base.specs.declared.kind.Kind.TheVariants as kind
use Rattle.cc_tree.specs.declared.unit.Unit as unit
use Rattle.cc_names.specs.Faults as naming
use Rattle.cc_names.specs.Refusals as names
use Rattle.cc_template.specs.Faults as templates
use Rattle.cc_template.specs.Expansion.{has_template, IsWithoutTemplates, IsExpandFault}
use Rattle.cc_template.specs.declared.fault.TemplateFault.{TemplateFault}
use Rattle.cc_template.specs.declared.fault.TemplateFault.TheVariants as fault
use Rattle.cc_straight.specs.declared.fault.CompileFault.{CompileFault}
use Rattle.cc_straight.specs.declared.fault.CompileFault.TheVariants.{Refused, Memory}
use Rattle.cc_straight.specs.Reading.{IsCounted, IsForbidden, refusal_of}

pub name_fault : (tree : unit.Unit) (told : Option (Kind × Span)) (f : CompileFault) → naming.Refuses told (names.refusal tree) → told ≡ refusal_of f → IsForbidden tree f
name_fault tree told (Refused why place) h e = inl (subst (λ r. naming.Refuses r (names.refusal tree)) e h)
name_fault tree told Memory h e = tt

abbrev IsNothing : Option (Kind × Span) → Type 0
IsNothing None = Unit {0}
IsNothing (Some one) = ⊥

abbrev why_of : Kind → Option (Kind × Span) → Kind
why_of why None = why
why_of why (Some one) = one.0

abbrev place_of : Span → Option (Kind × Span) → Span
place_of place None = place
place_of place (Some one) = one.1

pub node_fault : (tree : unit.Unit) (one : TemplateFault) (f : CompileFault) → names.refusal tree ≡ None → IsWithoutTemplates tree → IsExpandFault tree one → templates.refusal one ≡ refusal_of f → IsForbidden tree f
node_fault tree one Memory named plain h e = tt
node_fault tree (fault.WrongArguments span) (Refused why place) named plain h e = absurd h
node_fault tree (fault.TemplateDepth span) (Refused why place) named plain h e = absurd h
node_fault tree fault.Memory (Refused why place) named plain h e = absurd (subst IsNothing e tt)
node_fault tree (fault.TooManyNodes span) (Refused why place) named plain h e =
    inr (named, plain, h ∙ ap (λ at. Err (place_of span at)) e, sym (ap (why_of kind.TooManyNodes) e))

-- what a unit with templates is not asked for
pub not_counted : (tree : unit.Unit) → list_any has_template tree.outers ≡ true → IsCounted tree
not_counted tree some plain = absurd (true≢false (sym some ∙ plain))
