-- What typing answers: what a part of a tree means, or why it is refused and where. Parts follow one another from left to right, and the first refusal decides.
use Rattle.std.specs.Prelude.{ℕ, List, [], ◌∷◌, ◌++◌, map, Result, Ok, Err}
use Rattle.cc_base.specs.declared.text.Span.{Span}
use Rattle.cc_base.specs.declared.kind.Kind.{Kind}
use Rattle.cc_base.specs.declared.kind.Kind.TheVariants as kind
use Rattle.cc_base.specs.declared.identifiers.LocalId.{LocalId}
use Rattle.cc_tree.specs.declared.type_name.FundamentalType.{FundamentalType}
use Rattle.cc_core.specs.Term.{Term}
use Rattle.cc_core.specs.Term as term
use Rattle.cc_core.specs.Bare.{term_of}
use Rattle.cc_operations.specs.declared.judged.Refusal.{Refusal}
use Rattle.cc_operations.specs.declared.judged.ConsoleMember.{ConsoleMember}
use Rattle.cc_operations.specs.declared.judged.Given.{Given}
use Rattle.cc_operations.specs.declared.judged.Meant.{Meant}
use Rattle.cc_operations.specs.declared.judged.Meant.TheVariants as meant
use Rattle.cc_operations.specs.Numbers.{core}

abbrev pub Judged : Type 0 → Type 0
Judged A = Result A Refusal

abbrev pub refused : {A : Type 0} → Kind → Span → Judged A
refused kind span = Err (record { kind = kind; span = span })

-- one part, and then what its meaning leads to
abbrev pub next : {A B : Type 0} → Judged A → (A → Judged B) → Judged B
next (Ok a) step = step a
next (Err refusal) step = Err refusal

-- a value of a type
pub record Value : Type 0 where
  pub of : FundamentalType
  pub term : Term

-- What an expression means.
pub data Meaning : Type 0 where
  -- a value that is no place
  is_value : Value → Meaning
  -- a variable
  is_place : FundamentalType → LocalId → Meaning
  -- the name of functions at this place, with the candidates by their places among the functions of the source
  are_functions : Span → List ℕ → Meaning
  -- the name of a member of the console
  is_console : Span → ConsoleMember → Meaning

abbrev pub local_value : FundamentalType → LocalId → Value
local_value of local = record { of = of; term = term.Local (core of) local }

-- An expression is used as a value: a name of functions that isn't called is refused at the name.
abbrev pub as_value : Meaning → Judged Value
as_value (is_value value) = Ok value
as_value (is_place of local) = Ok (local_value of local)
as_value (are_functions span candidates) = refused kind.NoConversion span
as_value (is_console span member) = refused kind.NoConversion span

abbrev pub valued : Judged Meaning → Judged Value
valued judged = next judged as_value

-- an operand that is assigned or counted may be a place, but no name of functions
abbrev pub as_operand : Meaning → Judged Meaning
as_operand (is_value value) = Ok (is_value value)
as_operand (is_place of local) = Ok (is_place of local)
as_operand (are_functions span candidates) = refused kind.NoConversion span
as_operand (is_console span member) = refused kind.NoConversion span

abbrev pub operand : Judged Meaning → Judged Meaning
operand judged = next judged as_operand

abbrev pub with_value : {B : Type 0} → Judged Meaning → (Value → Judged B) → Judged B
with_value judged step = next (valued judged) step

-- values in a row, behind those that are known
abbrev pub all_values : List Value → List (Judged Meaning) → Judged (List Value)
all_values values [] = Ok values
all_values values (one ∷ more) = with_value one (λ value. all_values (values ++ value ∷ []) more)

-- ---- the same of what functions give, without the places of their parts in memory

abbrev pub value_of : Given → Value
value_of given = record { of = given.of; term = term_of given.term }

abbrev pub values_of : List Given → List Value
values_of values = map value_of values

abbrev pub meaning_of : Meant → Meaning
meaning_of (meant.Value given) = is_value (value_of given)
meaning_of (meant.Place of local) = is_place of local
meaning_of (meant.Functions span candidates) = are_functions span candidates
meaning_of (meant.Console span member) = is_console span member

abbrev pub judged_by : {A B : Type 0} → (A → B) → Judged A → Judged B
judged_by bare (Ok a) = Ok (bare a)
judged_by bare (Err refusal) = Err refusal
