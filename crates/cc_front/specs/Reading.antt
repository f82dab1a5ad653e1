-- Which typed program the bytes of a text spell, and why and where a text is refused (ECMA-372, 9 to 20).
use Rattle.std.specs.Prelude.{◌≡◌, ◌≤◌, ℕ, List, length, ⊤, Option, Some, None, Ok, Err}
use Rattle.cc_base.specs.declared.text.Span.{Span}
use Rattle.cc_base.specs.declared.kind.Kind.{Kind}
use Rattle.cc_base.specs.declared.kind.Kind.TheVariants as kind
use Rattle.cc_tree.specs.declared.token.Token.{Token}
use Rattle.cc_tree.specs.declared.unit.Unit as unit
use Rattle.cc_tree.specs.Spelling.{Spelled}
use Rattle.cc_terminals.specs.declared.fault.ParseFault.{ParseFault}
use Rattle.cc_terminals.specs.Faults as faults
use Rattle.cc_grammar.specs.Parse as parse
use Rattle.cc_grammar.specs.Parse.{Accepts}
use Rattle.cc_forms.specs.Forms.{first_not_built}
use Rattle.cc_names.specs.Refusals as names
use Rattle.cc_template.specs.Walk.{counted}
use Rattle.cc_core.specs.declared.tree.ProgramParts.{ProgramParts}
use Rattle.cc_core.specs.declared.types.ClassInfo.{ClassInfo}
use Rattle.cc_operations.specs.Choosing.{Pick, Chooses}
use Rattle.cc_typing_laws.specs.Contents.{functions}
use Rattle.cc_typing_laws.specs.Programs.{classes_with, library_classes, program_bare, typed_program}
use Rattle.cc_front.specs.declared.fault.SourceFault.{SourceFault}
use Rattle.cc_front.specs.declared.fault.SourceFault.TheVariants.{Refused, Memory}

-- no node of the unit makes a count pass its limit
abbrev pub HasRoom : unit.Unit → Type 0
HasRoom tree = (count : ℕ) × (counted tree ≡ Ok count)

-- the classes of a unit's program: the library's, and the one that has the functions outside classes
abbrev pub classes_of : unit.Unit → List ClassInfo
classes_of tree = classes_with library_classes (functions tree)

-- two programs are the same but for where their parts stand in memory
abbrev pub AreSame : ProgramParts → ProgramParts → Type 0
AreSame a b = program_bare a ≡ program_bare b

-- a unit is this program, whatever choice among the functions of a call is the language's
abbrev pub IsProgramOf : unit.Unit → ProgramParts → Type 0
IsProgramOf tree program = (pick : Pick) → Chooses (classes_of tree) pick → typed_program pick tree ≡ Ok (program_bare program)

-- a unit is not typed, for this reason at this place
abbrev pub IsNotTyped : unit.Unit → Kind → Span → Type 0
IsNotTyped tree why place = (pick : Pick) → Chooses (classes_of tree) pick → typed_program pick tree ≡ Err (record { kind = why; span = place })

-- the text has tokens, they have a tree of built forms, its names and the number of its nodes are allowed, and it is typed as the program
pub record Types (text : List ℕ) (program : ProgramParts) : Type 0 where
  pub tokens : List Token
  pub tree : unit.Unit
  pub lexed : Spelled text (Ok tokens)
  pub parsed : Accepts tokens tree
  pub built : first_not_built tree ≡ None
  pub named : names.refusal tree ≡ None
  pub fits : HasRoom tree
  pub typed : IsProgramOf tree program

-- A text without tokens is refused at the first place at which no token begins, and tokens without a tree as the parser refuses them; a tree at its first node of a form that isn't built.
-- Else it is refused as its names are, else at the first node too many, and else as it is typed.
pub data Refuses : List ℕ → Kind → Span → Type 0 where
  lexical : {text : List ℕ} {why : Kind} {place : Span} → Spelled text (Err (why, place)) → Refuses text why place
  parsing : {text : List ℕ} {why : Kind} {place : Span} (tokens : List Token) (fault : ParseFault)
      → Spelled text (Ok tokens) → parse.Refuses tokens fault → faults.refusal fault ≡ Some (why, place) → Refuses text why place
  not_yet : {text : List ℕ} {place : Span} (tokens : List Token) (tree : unit.Unit)
      → Spelled text (Ok tokens) → Accepts tokens tree → first_not_built tree ≡ Some place → Refuses text kind.NotYet place
  naming : {text : List ℕ} {why : Kind} {place : Span} (tokens : List Token) (tree : unit.Unit)
      → Spelled text (Ok tokens) → Accepts tokens tree → first_not_built tree ≡ None → names.refusal tree ≡ Some (why, place) → Refuses text why place
  expanding : {text : List ℕ} {place : Span} (tokens : List Token) (tree : unit.Unit)
      → Spelled text (Ok tokens) → Accepts tokens tree → first_not_built tree ≡ None → names.refusal tree ≡ None
      → counted tree ≡ Err place → Refuses text kind.TooManyNodes place
  typing : {text : List ℕ} {why : Kind} {place : Span} (tokens : List Token) (tree : unit.Unit)
      → Spelled text (Ok tokens) → Accepts tokens tree → first_not_built tree ≡ None → names.refusal tree ≡ None → HasRoom tree
      → IsNotTyped tree why place → Refuses text why place

-- want of memory may come in place of any refusal
abbrev pub IsSourceFault : List ℕ → SourceFault → Type 0
IsSourceFault text (Refused why place) = Refuses text why place
IsSourceFault text Memory = ⊤

-- the kind and place of a refusal, none for want of memory
abbrev pub refusal_of : SourceFault → Option (Kind × Span)
refusal_of (Refused why place) = Some (why, place)
refusal_of Memory = None

-- The steps of the front end.

-- the tree of a text's tokens
pub record IsTreeOf (text : List ℕ) (tree : unit.Unit) : Type 0 where
  pub tokens : List Token
  pub lexed : Spelled text (Ok tokens)
  pub parsed : Accepts tokens tree

-- a tree of built forms is allowed so far: the fault tells what its names are refused for, or else the first node too many, or else why it is not typed
abbrev pub IsTreeFault : unit.Unit → SourceFault → Type 0
IsTreeFault tree fault = (text : List ℕ) → IsTreeOf text tree → IsSourceFault text fault
