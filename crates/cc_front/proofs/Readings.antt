-- A text has at most one typed program, and one that is refused has none.
use Rattle.std.proofs.Common.{◌≡◌, ◌∙◌, inl, inr, ℕ, List, [], ◌∷◌, refl, sym, ap, subst, append_assoc, arith}
use Rattle.std.specs.Prelude.{Option, Some, None, Result, Ok, Err, false}
use Rattle.cc_base.specs.declared.text.Span.{Span}
use Rattle.cc_base.specs.declared.kind.Kind.{Kind}
use Rattle.cc_tree.specs.declared.token.Token.{Token}
use Rattle.cc_tree.specs.declared.unit.Unit as unit
use Rattle.cc_tree.specs.Spelling.{Reading, Spelled}
use Rattle.cc_tree.specs.CollectedNames.{collected}
use Rattle.cc_tree.specs.GrammarUnit.{Spells}
use Rattle.cc_terminals.specs.Scan.{first_fault}
use Rattle.cc_terminals.specs.Faults.{refusal}
use Rattle.cc_terminals.specs.declared.fault.ParseFault.{ParseFault}
use Rattle.cc_terminals.specs.declared.fault.ParseFault.TheVariants as fault
use Rattle.cc_grammar.specs.Parse as parse
use Rattle.cc_grammar.specs.Parse.{Accepts, RefusedAt, TooDeepAt}
use Rattle.cc_grammar_laws.proofs.CompleteUnit.{one_unit}
use Rattle.cc_lexer.proofs.OneReading.{spelled_once}
use Rattle.cc_forms.specs.Forms.{first_not_built}
use Rattle.cc_names.specs.Refusals as names
use Rattle.cc_template.specs.Walk.{counted}
use Rattle.cc_core.specs.declared.tree.ProgramParts.{ProgramParts}
use Rattle.cc_operations.specs.Choosing.{Chooses}
use Rattle.cc_operations.specs.Judgements.{Judged}
use Rattle.cc_typing_laws.specs.Programs.{TypedProgram, program_bare, typed_program}
use Rattle.cc_typing_laws.proofs.Choices.{some_choice}
use Rattle.cc_front.specs.Laws.{OneMeaning, OneProgram, RefusedHasNone}
use Rattle.cc_front.proofs.Meanings.{run_same}
use Rattle.cc_front.specs.Reading.{classes_of, Types, lexical, parsing, not_yet, naming, expanding, typing}

-- ---- a text has one list of tokens, and that one tree

abbrev IsTokens : Reading → Type 0
IsTokens (Ok tokens) = Unit {0}
IsTokens (Err refusal) = ⊥

abbrev SameTokens : List Token → Reading → Type 0
SameTokens tokens (Ok others) = tokens ≡ others
SameTokens tokens (Err refusal) = Unit {0}

one_text : (text : List ℕ) (a b : List Token) → Spelled text (Ok a) → Spelled text (Ok b) → a ≡ b
one_text text a b p q = subst (λ r. SameTokens a r) (spelled_once text (Ok a) (Ok b) p q) refl

one_accepted : (tokens : List Token) (a b : unit.Unit) → Accepts tokens a → Accepts tokens b → a ≡ b
one_accepted tokens a b p q = one_unit (collected tokens) tokens a b p.spells q.spells

-- the tree of a text that has a typed program
same_tree : (text : List ℕ) (tokens : List Token) (tree : unit.Unit) (program : ProgramParts) → Spelled text (Ok tokens) → Accepts tokens tree → (typed : Types text program) → tree ≡ typed.tree
same_tree text tokens tree program spelled accepted typed =
    one_accepted tokens tree typed.tree accepted (subst (λ ts. Accepts ts typed.tree) (one_text text typed.tokens tokens typed.lexed spelled) typed.parsed)

-- ---- one program

abbrev SameProgram : TypedProgram → Judged TypedProgram → Type 0
SameProgram program (Ok other) = program ≡ other
SameProgram program (Err why) = Unit {0}

pub one_program : OneProgram
one_program text a b p q =
    let pick = some_choice (classes_of p.tree) in
    let tree = same_tree text p.tokens p.tree b p.lexed p.parsed q in
    let other : typed_program pick.0 p.tree ≡ Ok (program_bare b) =
    ap (typed_program pick.0) tree ∙ q.typed pick.0 (subst (λ t. Chooses (classes_of t) pick.0) tree pick.1) in
    subst (λ j. SameProgram (program_bare a) j) (sym (p.typed pick.0 pick.1) ∙ other) refl

pub one_meaning : OneMeaning
one_meaning text a b input arguments limits turns p q = run_same a b input arguments limits turns (one_program text a b p q)

-- ---- tokens that are refused have no tree

not_refused_at : (tokens : List Token) (span : Span) (tree : unit.Unit) {pointer : _} → RefusedAt tokens span pointer → Accepts tokens tree → ⊥
not_refused_at tokens span tree (before, token, place, wrong) accepted =
    wrong.wrong (place.behind, tree, subst (λ ts. Spells (collected tokens) ts tree) (place.parts ∙ sym (append_assoc before (token ∷ []) place.behind)) accepted.spells)

not_deep_at : (tokens : List Token) (span : Span) (tree : unit.Unit) (before : List Token) (token : Token) → TooDeepAt tokens span before token → Accepts tokens tree → ⊥
not_deep_at tokens span tree before token deep accepted =
    let more = deep.deep deep.place.behind tree (subst (λ ts. Spells (collected tokens) ts tree) deep.place.parts accepted.spells) in
    let within = accepted.within in
    omega (arith, more, within)

abbrev IsNothing : Option ParseFault → Type 0
IsNothing None = Unit {0}
IsNothing (Some fault) = ⊥

not_scanned : (tokens : List Token) (tree : unit.Unit) (found : ParseFault) → first_fault false false None tokens ≡ Some found → Accepts tokens tree → ⊥
not_scanned tokens tree found e accepted = subst IsNothing (sym accepted.scanned ∙ e) tt

abbrev IsNoRefusal : Option (Kind × Span) → Type 0
IsNoRefusal None = Unit {0}
IsNoRefusal (Some one) = ⊥

refuses_no_tree : (tokens : List Token) (tree : unit.Unit) (found : ParseFault) (why : Kind) (place : Span) → parse.Refuses tokens found → refusal found ≡ Some (why, place) → Accepts tokens tree → ⊥
refuses_no_tree tokens tree (fault.Syntax span) why place (scanned, inl at) e accepted = not_refused_at tokens span tree at accepted
refuses_no_tree tokens tree (fault.Syntax span) why place (scanned, inr more) e accepted = more.none tree accepted.spells
refuses_no_tree tokens tree (fault.NativePointer span) why place (scanned, at) e accepted = not_refused_at tokens span tree at accepted
refuses_no_tree tokens tree (fault.TooDeep span) why place (scanned, inl (before, token, deep)) e accepted = not_deep_at tokens span tree before token deep accepted
refuses_no_tree tokens tree (fault.TooDeep span) why place (scanned, inr deep) e accepted =
    let more = deep.deep tree accepted.spells in let within = accepted.within in omega (arith, more, within)
refuses_no_tree tokens tree fault.Memory why place h e accepted = subst IsNoRefusal e tt
refuses_no_tree tokens tree (fault.OutsideProfile span) why place h e accepted = not_scanned tokens tree _ h accepted
refuses_no_tree tokens tree (fault.FloatType span) why place h e accepted = not_scanned tokens tree _ h accepted
refuses_no_tree tokens tree (fault.MixedMode span) why place h e accepted = not_scanned tokens tree _ h accepted

-- ---- a text that is refused

abbrev IsNowhere : Option Span → Type 0
IsNowhere None = Unit {0}
IsNowhere (Some place) = ⊥

abbrev IsCount : Result ℕ Span → Type 0
IsCount (Ok count) = Unit {0}
IsCount (Err span) = ⊥

abbrev IsTyped : Judged TypedProgram → Type 0
IsTyped (Ok program) = Unit {0}
IsTyped (Err why) = ⊥

pub refused_has_none : RefusedHasNone
refused_has_none text why place program (lexical e) typed = subst IsTokens (spelled_once text (Ok typed.tokens) (Err (why, place)) typed.lexed e) tt
refused_has_none text why place program (parsing tokens found spelled refused e) typed =
    refuses_no_tree tokens typed.tree found why place refused e (subst (λ ts. Accepts ts typed.tree) (one_text text typed.tokens tokens typed.lexed spelled) typed.parsed)
refused_has_none text why place program (not_yet tokens tree spelled accepted unbuilt) typed =
    subst IsNowhere (sym typed.built ∙ ap first_not_built (sym (same_tree text tokens tree program spelled accepted typed)) ∙ unbuilt) tt
refused_has_none text why place program (naming tokens tree spelled accepted built refused) typed =
    subst IsNoRefusal (sym typed.named ∙ ap names.refusal (sym (same_tree text tokens tree program spelled accepted typed)) ∙ refused) tt
refused_has_none text why place program (expanding tokens tree spelled accepted built named many) typed =
    subst IsCount (sym typed.fits.1 ∙ ap counted (sym (same_tree text tokens tree program spelled accepted typed)) ∙ many) tt
refused_has_none text why place program (typing tokens tree spelled accepted built named room wrong) typed =
    let pick = some_choice (classes_of tree) in
    let same = same_tree text tokens tree program spelled accepted typed in
    let right : typed_program pick.0 tree ≡ Ok (program_bare program) =
    ap (typed_program pick.0) same ∙ typed.typed pick.0 (subst (λ t. Chooses (classes_of t) pick.0) same pick.1) in
    subst IsTyped (sym right ∙ wrong pick.0 pick.1) tt
