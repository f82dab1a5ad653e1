-- A tree is straight or has a first node that isn't built. A text spells at most one straight source, and one that is refused spells none.
use Rattle.std.proofs.Common.{◌≡◌, ◌⊎◌, inl, inr, ℕ, List, [], ◌∷◌, refl, sym, ap, subst, ◌∙◌, append_assoc, arith}
use Rattle.std.specs.Prelude.{Option, Some, None, Result, Ok, Err, false}
use Rattle.cc_base.specs.declared.text.Span.{Span}
use Rattle.cc_base.specs.declared.kind.Kind.{Kind}
use Rattle.cc_tree.specs.declared.token.Token.{Token}
use Rattle.cc_tree.specs.declared.unit.Unit as unit
use Rattle.cc_tree.specs.Spelling.{Reading, Spelled}
use Rattle.cc_tree.specs.CollectedNames.{collected}
use Rattle.cc_tree.specs.GrammarUnit.{Spells}
use Rattle.cc_terminals.specs.Scan.{first_fault}
use Rattle.cc_terminals.specs.Faults.{refusal}
use Rattle.cc_terminals.specs.declared.fault.ParseFault.{ParseFault}
use Rattle.cc_terminals.specs.declared.fault.ParseFault.TheVariants as fault
use Rattle.cc_grammar.specs.Parse as parse
use Rattle.cc_grammar.specs.Parse.{Accepts, RefusedAt, WantsMore, TooDeepAt, TooDeepAtEnd, Scanned}
use Rattle.cc_grammar_laws.proofs.CompleteUnit.{one_unit}
use Rattle.cc_lexer.proofs.OneReading.{spelled_once}
use Rattle.cc_core.specs.StraightSource.{Source}
use Rattle.cc_straight.specs.Form.{Judged, IsStraight, FirstUnbuilt, unit_source}
use Rattle.cc_straight.specs.Laws.{StraightOrUnbuilt, NeverBoth, OneSource, RefusedReadsNone}
use Rattle.cc_names.specs.Refusals as names
use Rattle.cc_template.specs.Walk.{counted}
use Rattle.cc_straight.specs.Reading.{Purpose, execution, checking, Reads, IsUnbuilt, lexical, parsing, not_yet, naming, expanding, not_typed}

abbrev IsTokens : Reading → Type 0
IsTokens (Ok tokens) = Unit {0}
IsTokens (Err refusal) = ⊥

abbrev SameTokens : List Token → Reading → Type 0
SameTokens tokens (Ok others) = tokens ≡ others
SameTokens tokens (Err refusal) = Unit {0}

-- a text has one list of tokens, and that one tree
one_text : (text : List ℕ) (a b : List Token) → Spelled text (Ok a) → Spelled text (Ok b) → a ≡ b
one_text text a b p q = subst (λ r. SameTokens a r) (spelled_once text (Ok a) (Ok b) p q) refl

pub one_accepted : (tokens : List Token) (a b : unit.Unit) → Accepts tokens a → Accepts tokens b → a ≡ b
one_accepted tokens a b p q = one_unit (collected tokens) tokens a b p.spells q.spells

abbrev SameSource : Source → Judged Source → Type 0
SameSource source (Ok other) = source ≡ other
SameSource source (Err span) = Unit {0}

pub one_source : OneSource
one_source text a b p q =
    let tokens = one_text text q.tokens p.tokens q.lexed p.lexed in
    let tree = one_accepted p.tokens p.tree q.tree p.parsed (subst (λ ts. Accepts ts q.tree) tokens q.parsed) in
    subst (λ j. SameSource a j) (sym p.straight ∙ ap unit_source tree ∙ q.straight) refl

-- tokens that are refused at a token have no tree
not_refused_at : (tokens : List Token) (span : Span) (tree : unit.Unit) {pointer : _} → RefusedAt tokens span pointer → Accepts tokens tree → ⊥
not_refused_at tokens span tree (before, token, place, wrong) accepted =
    wrong.wrong (place.behind, tree, subst (λ ts. Spells (collected tokens) ts tree) (place.parts ∙ sym (append_assoc before (token ∷ []) place.behind)) accepted.spells)

not_deep_at : (tokens : List Token) (span : Span) (tree : unit.Unit) (before : List Token) (token : Token) → TooDeepAt tokens span before token → Accepts tokens tree → ⊥
not_deep_at tokens span tree before token deep accepted =
    let more = deep.deep deep.place.behind tree (subst (λ ts. Spells (collected tokens) ts tree) deep.place.parts accepted.spells) in
    let within = accepted.within in
    omega (arith, more, within)

abbrev IsNothing : Option ParseFault → Type 0
IsNothing None = Unit {0}
IsNothing (Some fault) = ⊥

not_scanned : (tokens : List Token) (tree : unit.Unit) (found : ParseFault) → first_fault false false None tokens ≡ Some found → Accepts tokens tree → ⊥
not_scanned tokens tree found e accepted = subst IsNothing (sym accepted.scanned ∙ e) tt

abbrev IsNoRefusal : Option (Kind × Span) → Type 0
IsNoRefusal None = Unit {0}
IsNoRefusal (Some one) = ⊥

refuses_no_tree : (tokens : List Token) (tree : unit.Unit) (found : ParseFault) (why : Kind) (place : Span) → parse.Refuses tokens found → refusal found ≡ Some (why, place) → Accepts tokens tree → ⊥
refuses_no_tree tokens tree (fault.Syntax span) why place (scanned, inl at) e accepted = not_refused_at tokens span tree at accepted
refuses_no_tree tokens tree (fault.Syntax span) why place (scanned, inr more) e accepted = more.none tree accepted.spells
refuses_no_tree tokens tree (fault.NativePointer span) why place (scanned, at) e accepted = not_refused_at tokens span tree at accepted
refuses_no_tree tokens tree (fault.TooDeep span) why place (scanned, inl (before, token, deep)) e accepted = not_deep_at tokens span tree before token deep accepted
refuses_no_tree tokens tree (fault.TooDeep span) why place (scanned, inr deep) e accepted =
    let more = deep.deep tree accepted.spells in let within = accepted.within in omega (arith, more, within)
refuses_no_tree tokens tree fault.Memory why place h e accepted = subst IsNoRefusal e tt
refuses_no_tree tokens tree (fault.OutsideProfile span) why place h e accepted = not_scanned tokens tree _ h accepted
refuses_no_tree tokens tree (fault.FloatType span) why place h e accepted = not_scanned tokens tree _ h accepted
refuses_no_tree tokens tree (fault.MixedMode span) why place h e accepted = not_scanned tokens tree _ h accepted

abbrev IsUnbuiltForm : Judged Source → Type 0
IsUnbuiltForm (Ok source) = ⊥
IsUnbuiltForm (Err span) = Unit {0}

-- a text that is read as a source has its tree
same_tree : (text : List ℕ) (tokens : List Token) (tree : unit.Unit) (source : Source) → Spelled text (Ok tokens) → Accepts tokens tree → (reading : Reads text source) → tree ≡ reading.tree
same_tree text tokens tree source spelled accepted reading =
    one_accepted tokens tree reading.tree accepted (subst (λ ts. Accepts ts reading.tree) (one_text text reading.tokens tokens reading.lexed spelled) reading.parsed)

abbrev IsCount : Result ℕ Span → Type 0
IsCount (Ok count) = Unit {0}
IsCount (Err span) = ⊥

-- a tree with a node that isn't built is no source
unbuilt_not_straight : (purpose : Purpose) (tree : unit.Unit) (place : Span) (source : Source) → IsUnbuilt purpose tree place → unit_source tree ≡ Ok source → ⊥
unbuilt_not_straight execution tree place source unbuilt straight = subst IsUnbuiltForm (sym unbuilt ∙ straight) tt
unbuilt_not_straight checking tree place source ((span, unbuilt), first) straight = subst IsUnbuiltForm (sym unbuilt ∙ straight) tt

pub refuses_not_reads : RefusedReadsNone
refuses_not_reads purpose text why place source (lexical e) reading = subst IsTokens (spelled_once text (Ok reading.tokens) (Err (why, place)) reading.lexed e) tt
refuses_not_reads purpose text why place source (parsing tokens found spelled refused e) reading =
    refuses_no_tree tokens reading.tree found why place refused e (subst (λ ts. Accepts ts reading.tree) (one_text text reading.tokens tokens reading.lexed spelled) reading.parsed)
refuses_not_reads purpose text why place source (not_yet tokens tree spelled accepted unbuilt) reading =
    unbuilt_not_straight purpose tree place source unbuilt (ap unit_source (same_tree text tokens tree source spelled accepted reading) ∙ reading.straight)
refuses_not_reads purpose text why place source (naming tokens tree spelled accepted formed refused) reading =
    subst IsNoRefusal (sym reading.named ∙ ap names.refusal (sym (same_tree text tokens tree source spelled accepted reading)) ∙ refused) tt
refuses_not_reads purpose text why place source (expanding tokens tree spelled accepted formed named plain many) reading =
    subst IsCount (sym reading.fits.1 ∙ ap counted (sym (same_tree text tokens tree source spelled accepted reading)) ∙ many) tt
refuses_not_reads purpose text why place source (not_typed tokens tree spelled accepted formed named sized unbuilt) reading =
    subst IsUnbuiltForm (sym unbuilt ∙ ap unit_source (same_tree text tokens tree source spelled accepted reading) ∙ reading.straight) tt

pub straight_or_unbuilt : StraightOrUnbuilt
straight_or_unbuilt tree = go (unit_source tree) refl
  where
    go : (judged : Judged Source) → unit_source tree ≡ judged → ((source : Source) × IsStraight tree source) ⊎ ((span : Span) × FirstUnbuilt tree span)
    go (Ok source) e = inl (source, e)
    go (Err span) e = inr (span, e)

pub never_both : NeverBoth
never_both tree source span straight unbuilt = subst IsUnbuiltForm (sym unbuilt ∙ straight) tt
