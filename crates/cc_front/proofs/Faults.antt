-- What the steps of the front end say of its answer.
use Rattle.std.proofs.Common.{◌≡◌, ◌∙◌, inl, inr, ℕ, List, refl, sym, ap, subst}
use Rattle.std.specs.Prelude.{Option, Some, None, Ok, Err}
use Rattle.cc_base.specs.declared.text.Span.{Span}
use Rattle.cc_base.specs.declared.kind.Kind.{Kind}
use Rattle.cc_base.specs.declared.kind.Kind.TheVariants as kind
use Rattle.cc_tree.specs.declared.token.Token.{Token}
use Rattle.cc_tree.specs.declared.unit.Unit as unit
use Rattle.cc_tree.specs.Spelling.{Spelled}
use Rattle.cc_terminals.specs.declared.fault.ParseFault.{ParseFault}
use Rattle.cc_terminals.specs.Faults as terminal_faults
use Rattle.cc_lexer.specs.Faults as faults
use Rattle.cc_grammar.specs.Parse as parse
use Rattle.cc_forms.specs.Forms.{first_not_built}
use Rattle.cc_names.specs.Faults as name_faults
use Rattle.cc_names.specs.Refusals as names
use Rattle.cc_template.specs.Expansion.{IsExpandFault}
use Rattle.cc_template.specs.Faults as templates
use Rattle.cc_template.specs.declared.fault.TemplateFault.{TemplateFault}
use Rattle.cc_template.specs.declared.fault.TemplateFault.TheVariants as template_fault
use Rattle.cc_typing.specs.Faults as types
use Rattle.cc_operations.specs.Choosing.{Pick, Chooses}
use Rattle.cc_typing_laws.specs.Programs.{typed_program}
use Rattle.cc_front.specs.declared.fault.SourceFault.{SourceFault}
use Rattle.cc_front.specs.declared.fault.SourceFault.TheVariants.{Refused, Memory}
use Rattle.cc_front.specs.Reading.{classes_of, HasRoom, IsNotTyped, IsSourceFault, IsTreeFault, IsTreeOf, lexical, parsing, not_yet, naming, expanding, typing, refusal_of}

pub lexical_fault : (text : List ℕ) (r : Option (Kind × Span)) (f : SourceFault) → faults.Refuses r (Spelled text) → r ≡ refusal_of f → IsSourceFault text f
lexical_fault text r (Refused why place) h e = lexical (subst (λ x. faults.Refuses x (Spelled text)) e h)
lexical_fault text r Memory h e = tt

pub parse_fault : (text : List ℕ) (tokens : List Token) (fault : ParseFault) (f : SourceFault) → Spelled text (Ok tokens) → parse.Refuses tokens fault → terminal_faults.refusal fault ≡ refusal_of f → IsSourceFault text f
parse_fault text tokens fault (Refused why place) spelled h e = parsing tokens fault spelled h e
parse_fault text tokens fault Memory spelled h e = tt

abbrev IsNothing : Option (Kind × Span) → Type 0
IsNothing None = Unit {0}
IsNothing (Some one) = ⊥

abbrev why_of : Kind → Option (Kind × Span) → Kind
why_of why None = why
why_of why (Some one) = one.0

abbrev place_of : Span → Option (Kind × Span) → Span
place_of place None = place
place_of place (Some one) = one.1

module _ (tree : unit.Unit) (built : first_not_built tree ≡ None) where
  -- a name that the rules refuse
  pub name_fault : (told : Option (Kind × Span)) (f : SourceFault) → name_faults.Refuses told (names.refusal tree) → told ≡ refusal_of f → IsTreeFault tree f
  name_fault told (Refused why place) h e text is = naming is.tokens tree is.lexed is.parsed built (subst (λ r. name_faults.Refuses r (names.refusal tree)) e h)
  name_fault told Memory h e text is = tt

  module _ (named : names.refusal tree ≡ None) where
    -- the first node too many
    pub node_fault : (one : TemplateFault) (f : SourceFault) → IsExpandFault tree one → templates.refusal one ≡ refusal_of f → IsTreeFault tree f
    node_fault one Memory h e text is = tt
    node_fault (template_fault.WrongArguments span) (Refused why place) h e text is = absurd h
    node_fault (template_fault.TemplateDepth span) (Refused why place) h e text is = absurd h
    node_fault template_fault.Memory (Refused why place) h e text is = absurd (subst IsNothing e tt)
    node_fault (template_fault.TooManyNodes span) (Refused why place) h e text is =
        let places : span ≡ place = ap (place_of span) e in
        let kinds : kind.TooManyNodes ≡ why = ap (why_of kind.TooManyNodes) e in
        subst (λ (w : Kind). IsSourceFault text (Refused w place)) kinds (expanding is.tokens tree is.lexed is.parsed built named (h ∙ ap Err places))

    -- a type that the rules refuse
    pub type_fault : HasRoom tree → (told : Option (Kind × Span)) (f : SourceFault)
        → ((pick : Pick) → Chooses (classes_of tree) pick → types.Refuses told (typed_program pick tree)) → told ≡ refusal_of f → IsTreeFault tree f
    type_fault room told (Refused why place) h e text is =
        typing is.tokens tree is.lexed is.parsed built named room (λ pick chooses. subst (λ r. types.Refuses r (typed_program pick tree)) e (h pick chooses))
    type_fault room told Memory h e text is = tt
