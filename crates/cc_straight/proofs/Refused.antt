-- What the steps of a compilation say of its answer.
use Rattle.std.proofs.Common.{◌≡◌, inl, inr, ℕ, List, refl, sym, ap, subst}
use Rattle.std.specs.Prelude.{Option, Some, None, Ok, Err}
use Rattle.cc_base.specs.declared.text.Span.{Span}
use Rattle.cc_base.specs.declared.kind.Kind.{Kind}
use Rattle.cc_base.specs.declared.kind.Kind.TheVariants as kind
use Rattle.cc_tree.specs.declared.token.Token.{Token}
use Rattle.cc_tree.specs.declared.unit.Unit as unit
use Rattle.cc_tree.specs.Spelling.{Spelled}
use Rattle.cc_terminals.specs.declared.fault.ParseFault.{ParseFault}
use Rattle.cc_terminals.specs.Faults as terminal_faults
use Rattle.cc_lexer.specs.Faults as faults
use Rattle.cc_grammar.specs.Parse as parse
use Rattle.cc_forms.specs.Forms.{first_not_built}
use Rattle.cc_names.specs.Refusals as names
use Rattle.cc_core.specs.declared.straight.StraightOperation.{StraightOperation}
use Rattle.cc_core.specs.StraightSource.{Source, source_operations}
use Rattle.cc_cil.specs.declared.body.Body.{Body}
use Rattle.cc_straight.specs.Form.{Judged, IsStraight, unit_source}
use Rattle.cc_straight.specs.Added.{AreAdded, IsFault}
use Rattle.cc_straight.specs.Straight.{RunsAs, IsSmall}
use Rattle.cc_straight.specs.declared.fault.CompileFault.{CompileFault}
use Rattle.cc_straight.specs.declared.fault.CompileFault.TheVariants.{Refused, Memory}
use Rattle.cc_straight.specs.Reading.{Purpose, execution, checking, IsOfForms, IsCounted, Reads, lexical, parsing, not_yet, naming, expanding, not_typed, IsTreeOf, IsSource, IsFirst, IsNotTyped, IsCompiled, IsForbidden, IsCompileFault, refusal_of}
use Rattle.cc_straight.proofs.Readings.{one_source}
use Rattle.cc_straight.proofs.Units.{accepted_small}
use Rattle.cc_straight.proofs.Spelled.{few_tokens}
use Rattle.cc_straight.proofs.Plain.{straight_plain}

pub lexical_fault : (text : List ℕ) (r : Option (Kind × Span)) (f : CompileFault) → faults.Refuses r (Spelled text) → r ≡ refusal_of f → (purpose : Purpose) → IsCompileFault purpose text f
lexical_fault text r (Refused why place) h e purpose = lexical (subst (λ x. faults.Refuses x (Spelled text)) e h)
lexical_fault text r Memory h e purpose = tt

pub parse_fault : (text : List ℕ) (tokens : List Token) (fault : ParseFault) (f : CompileFault) → Spelled text (Ok tokens) → parse.Refuses tokens fault → terminal_faults.refusal fault ≡ refusal_of f → (purpose : Purpose) → IsCompileFault purpose text f
parse_fault text tokens fault (Refused why place) spelled h e purpose = parsing tokens fault spelled h e
parse_fault text tokens fault Memory spelled h e purpose = tt

-- what is told of code is told as of operations
pub code_fault : (fault : CompileFault) (judged : Judged Source) → IsCompiled (Err fault) judged → IsFault fault judged
code_fault Memory judged h = tt
code_fault (Refused why place) (Ok source) h = absurd h
code_fault (Refused why place) (Err span) h = h

-- operations were added of a tree that is a source
pub added_first : (judged : Judged Source) (old new : List StraightOperation) → AreAdded source_operations judged old new → IsFirst None judged
added_first (Ok source) old new added = tt
added_first (Err span) old new added = absurd added

abbrev place_in : CompileFault → Span → Span
place_in Memory other = other
place_in (Refused why place) other = place

-- a fault that isn't want of memory tells the first node that isn't built
pub fault_first : (why : Kind) (place : Span) (judged : Judged Source) → IsFault (Refused why place) judged → IsFirst (Some place) judged
fault_first why place (Ok source) h = absurd h
fault_first why place (Err span) h = ap Err (sym (ap (λ f. place_in f place) h))

-- a tree of which code was made is a source
pub compiled_source : (code : Body) (judged : Judged Source) → IsCompiled (Ok code) judged → IsSource judged
compiled_source code (Ok source) h = tt
compiled_source code (Err span) h = absurd h

module _ (text : List ℕ) (tree : unit.Unit) (is : IsTreeOf text tree) where
  pub tree_small : (source : Source) → IsStraight tree source → IsSmall source
  tree_small = accepted_small is.tokens tree is.parsed (few_tokens text is.tokens is.lexed is.few)

  -- a form that isn't built to be executed
  straight_by : (fault : CompileFault) (judged : Judged Source) → unit_source tree ≡ judged → IsFault fault judged → IsCompileFault execution text fault
  straight_by Memory judged e h = tt
  straight_by (Refused why place) (Ok source) e h = absurd h
  straight_by (Refused why place) (Err span) e h = subst (λ f. IsCompileFault execution text f) (sym h) (not_yet is.tokens tree is.lexed is.parsed e)

  pub not_straight_fault : (fault : CompileFault) → IsFault fault (unit_source tree) → IsCompileFault execution text fault
  not_straight_fault fault h = straight_by fault (unit_source tree) refl h

  -- a name or a node that the rules refuse
  pub allowed_fault : (purpose : Purpose) (fault : CompileFault) → IsOfForms purpose tree → IsForbidden tree fault → IsCompileFault purpose text fault
  allowed_fault purpose Memory formed h = tt
  allowed_fault purpose (Refused why place) formed (inl refused) = naming is.tokens tree is.lexed is.parsed formed refused
  allowed_fault purpose (Refused why place) formed (inr (named, plain, many, same)) =
      subst (λ w. IsCompileFault purpose text (Refused w place)) (sym same) (expanding is.tokens tree is.lexed is.parsed formed named plain many)

  module _ (named : names.refusal tree ≡ None) (sized : IsCounted tree) where
    reads : (source : Source) → IsStraight tree source → Reads text source
    reads source e = record { tokens = is.tokens; tree = tree; lexed = is.lexed; parsed = is.parsed; named = named; fits = sized (straight_plain tree source e); straight = e }

    -- a tree that is a source
    source_by : (judged : Judged Source) → unit_source tree ≡ judged → IsSource judged → (source : Source) × Reads text source
    source_by (Ok source) e h = (source, reads source e)
    source_by (Err span) e h = absurd h

    pub checked_source : IsSource (unit_source tree) → (source : Source) × Reads text source
    checked_source h = source_by (unit_source tree) refl h

    -- code that was made of the tree
    code_by : (code : Body) (judged : Judged Source) → unit_source tree ≡ judged → IsCompiled (Ok code) judged → (source : Source) × Reads text source × RunsAs code source
    code_by code (Ok source) e h = (source, reads source e, h)
    code_by code (Err span) e h = absurd h

    pub some_source : (code : Body) → IsCompiled (Ok code) (unit_source tree) → (source : Source) × Reads text source × RunsAs code source
    some_source code h = code_by code (unit_source tree) refl h

    pub each_source : (code : Body) → IsCompiled (Ok code) (unit_source tree) → (source : Source) → Reads text source → RunsAs code source
    each_source code h source reading =
        let some = some_source code h in
        subst (λ s. RunsAs code s) (one_source text some.0 source some.1 reading) some.2

  -- a tree that isn't straight, when it is checked
  pub not_typed_fault : (place : Span) (fault : CompileFault) → unit_source tree ≡ Err place → IsNotTyped tree place fault → IsCompileFault checking text fault
  not_typed_fault place fault unbuilt (inl (other, first, same)) = subst (λ f. IsCompileFault checking text f) (sym same) (not_yet is.tokens tree is.lexed is.parsed ((place, unbuilt), first))
  not_typed_fault place fault unbuilt (inr (formed, inl forbidden)) = allowed_fault checking fault (inr formed) forbidden
  not_typed_fault place fault unbuilt (inr (formed, inr (named, sized, same))) =
      subst (λ f. IsCompileFault checking text f) (sym same) (not_typed is.tokens tree is.lexed is.parsed formed named sized unbuilt)
