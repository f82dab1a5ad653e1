-- Which straight source the bytes of a text spell, and why and where a text is refused.
use Rattle.std.specs.Prelude.{◌≡◌, ◌⊎◌, ◌≤◌, ℕ, List, length, ⊤, Bool, true, false, Option, Some, None, Result, Ok, Err, map}
use Rattle.cc_base.specs.declared.text.Span.{Span}
use Rattle.cc_base.specs.declared.kind.Kind.{Kind}
use Rattle.cc_base.specs.declared.kind.Kind.TheVariants as kind
use Rattle.cc_tree.specs.declared.token.Token.{Token}
use Rattle.cc_tree.specs.declared.unit.Unit as unit
use Rattle.cc_tree.specs.Spelling.{Spelled}
use Rattle.cc_terminals.specs.declared.fault.ParseFault.{ParseFault}
use Rattle.cc_terminals.specs.Faults as faults
use Rattle.cc_grammar.specs.Parse as parse
use Rattle.cc_grammar.specs.Parse.{Accepts}
use Rattle.cc_forms.specs.Forms.{first_not_built}
use Rattle.cc_names.specs.Refusals as names
use Rattle.cc_template.specs.Expansion.{IsWithoutTemplates}
use Rattle.cc_template.specs.Walk.{counted}
use Rattle.cc_core.specs.StraightSource.{Source}
use Rattle.cc_straight.specs.Form.{Judged, IsStraight, FirstUnbuilt, unit_source}
use Rattle.cc_cil.specs.declared.body.Body.{Body}
use Rattle.cc_straight.specs.Added.{IsFault}
use Rattle.cc_straight.specs.Straight.{RunsAs}
use Rattle.cc_straight.specs.declared.fault.CompileFault.{CompileFault}
use Rattle.cc_straight.specs.declared.fault.CompileFault.TheVariants.{Refused, Memory}

-- What a text is read for.
pub data Purpose : Type 0 where
  execution : Purpose
  checking : Purpose

-- a tree is a source
abbrev pub IsSource : Judged Source → Type 0
IsSource (Ok source) = ⊤
IsSource (Err span) = ⊥

-- What decides before the rules on names: a node of a form that isn't built. A straight program is built to be executed; to be checked, so is what is of the function language.
abbrev pub IsUnbuilt : Purpose → unit.Unit → Span → Type 0
IsUnbuilt execution tree place = FirstUnbuilt tree place
IsUnbuilt checking tree place = ((span : Span) × FirstUnbuilt tree span) × (first_not_built tree ≡ Some place)

abbrev pub IsOfForms : Purpose → unit.Unit → Type 0
IsOfForms execution tree = IsSource (unit_source tree)
IsOfForms checking tree = IsSource (unit_source tree) ⊎ (first_not_built tree ≡ None)

-- no node of the unit makes a count pass its limit
abbrev pub HasRoom : unit.Unit → Type 0
HasRoom tree = (count : ℕ) × (counted tree ≡ Ok count)

-- a unit without templates has room; others aren't counted, since their instances would be
abbrev pub IsCounted : unit.Unit → Type 0
IsCounted tree = IsWithoutTemplates tree → HasRoom tree

-- the text has tokens, they have a tree, its names and the number of its nodes are allowed, and it is the source
pub record Reads (text : List ℕ) (source : Source) : Type 0 where
  pub tokens : List Token
  pub tree : unit.Unit
  pub lexed : Spelled text (Ok tokens)
  pub parsed : Accepts tokens tree
  pub named : names.refusal tree ≡ None
  pub fits : HasRoom tree
  pub straight : IsStraight tree source

-- A text without tokens is refused at the first place at which no token begins, and tokens without a tree as the parser refuses them; a tree at its first node of a form that isn't built.
-- Else it is refused as its names are, and else at the first node too many. What is checked and refused for none of these, and is no straight program, is refused at its first node that is none.
pub data Refuses : Purpose → List ℕ → Kind → Span → Type 0 where
  lexical : {purpose : Purpose} {text : List ℕ} {why : Kind} {place : Span} → Spelled text (Err (why, place)) → Refuses purpose text why place
  parsing : {purpose : Purpose} {text : List ℕ} {why : Kind} {place : Span} (tokens : List Token) (fault : ParseFault)
      → Spelled text (Ok tokens) → parse.Refuses tokens fault → faults.refusal fault ≡ Some (why, place) → Refuses purpose text why place
  not_yet : {purpose : Purpose} {text : List ℕ} {place : Span} (tokens : List Token) (tree : unit.Unit)
      → Spelled text (Ok tokens) → Accepts tokens tree → IsUnbuilt purpose tree place → Refuses purpose text kind.NotYet place
  naming : {purpose : Purpose} {text : List ℕ} {why : Kind} {place : Span} (tokens : List Token) (tree : unit.Unit)
      → Spelled text (Ok tokens) → Accepts tokens tree → IsOfForms purpose tree → names.refusal tree ≡ Some (why, place) → Refuses purpose text why place
  expanding : {purpose : Purpose} {text : List ℕ} {place : Span} (tokens : List Token) (tree : unit.Unit)
      → Spelled text (Ok tokens) → Accepts tokens tree → IsOfForms purpose tree → names.refusal tree ≡ None
      → IsWithoutTemplates tree → counted tree ≡ Err place → Refuses purpose text kind.TooManyNodes place
  not_typed : {text : List ℕ} {place : Span} (tokens : List Token) (tree : unit.Unit)
      → Spelled text (Ok tokens) → Accepts tokens tree → first_not_built tree ≡ None → names.refusal tree ≡ None
      → IsCounted tree → FirstUnbuilt tree place → Refuses checking text kind.NotYet place

abbrev pub IsCompileFault : Purpose → List ℕ → CompileFault → Type 0
IsCompileFault purpose text (Refused why place) = Refuses purpose text why place
IsCompileFault purpose text Memory = Unit {0}

-- the kind and place of a refusal, none for want of memory
abbrev pub refusal_of : CompileFault → Option (Kind × Span)
refusal_of (Refused why place) = Some (why, place)
refusal_of Memory = None

-- The steps of a compilation.

-- the tree of a text's tokens, which are no more than its bytes
pub record IsTreeOf (text : List ℕ) (tree : unit.Unit) : Type 0 where
  pub tokens : List Token
  pub lexed : Spelled text (Ok tokens)
  pub few : length tokens ≤ length text
  pub parsed : Accepts tokens tree

-- what is said of the code of a tree: it runs as the source that the tree is, or the tree's first node that isn't built is told
abbrev pub IsCompiled : Result Body CompileFault → Judged Source → Type 0
IsCompiled (Ok code) (Ok source) = RunsAs code source
IsCompiled (Ok code) (Err span) = ⊥
IsCompiled (Err Memory) judged = ⊤
IsCompiled (Err (Refused why place)) (Ok source) = ⊥
IsCompiled (Err (Refused why place)) (Err span) = Refused why place ≡ Refused kind.NotYet span

-- a tree is a source, or this is its first node that isn't built
abbrev pub IsFirst : Option Span → Judged Source → Type 0
IsFirst None judged = IsSource judged
IsFirst (Some place) judged = judged ≡ Err place

-- the fault tells what the names are refused for, or else the first node too many of a unit without templates, or want of memory
abbrev pub IsForbidden : unit.Unit → CompileFault → Type 0
IsForbidden tree Memory = ⊤
IsForbidden tree (Refused why place) =
    (names.refusal tree ≡ Some (why, place))
    ⊎ ((names.refusal tree ≡ None) × IsWithoutTemplates tree × (counted tree ≡ Err place) × (why ≡ kind.TooManyNodes))

-- the names and the number of nodes of a unit are allowed, or the refusal is told
abbrev pub IsAllowed : {A : Type 0} → unit.Unit → Result A CompileFault → Type 0
IsAllowed tree (Ok done) = (names.refusal tree ≡ None) × IsCounted tree
IsAllowed tree (Err fault) = IsForbidden tree fault

-- why a tree that isn't straight from this node on is refused when it is checked
abbrev pub IsNotTyped : unit.Unit → Span → CompileFault → Type 0
IsNotTyped tree place fault =
    ((other : Span) × (first_not_built tree ≡ Some other) × (fault ≡ Refused kind.NotYet other))
    ⊎ ((first_not_built tree ≡ None) × (IsForbidden tree fault ⊎ ((names.refusal tree ≡ None) × IsCounted tree × (fault ≡ Refused kind.NotYet place))))
