-- Which of several functions a call takes (ECMA-372, 14.1; C++, 13.3).
use Rattle.std.specs.Prelude.{◌≡◌, ◌⊎◌, ℕ, ◌<◌, List, Some, length, slice_get}
use Rattle.cc_core.specs.declared.types.ClassInfo.{ClassInfo}
use Rattle.cc_core.specs.declared.types.CoreType.{CoreType}
use Rattle.cc_core.specs.Types.{BareType, bare}
use Rattle.cc_core.specs.Types as type
use Rattle.cc_convert.specs.declared.conversion.Conversion.{Conversion}
use Rattle.cc_convert.specs.declared.overload.Signature.{Signature}
use Rattle.cc_convert.specs.declared.overload.Choice.{Choice}
use Rattle.cc_convert.specs.declared.overload.Choice.TheVariants as choice
use Rattle.cc_convert.specs.Conversions.{IsConversion}

-- the type that is converted for a parameter: of a place what it holds, where the parameter doesn't take the place itself
abbrev pub handed : BareType → BareType → BareType
handed (type.Track target) (type.Track of) = type.Track target
handed (type.Track target) _ = target
handed given _ = given

-- the conversion of an argument for a parameter
abbrev pub IsPassed : List ClassInfo → CoreType → CoreType → Conversion → Type 0
IsPassed classes given parameter conversion = IsConversion classes (handed (bare given) (bare parameter)) (bare parameter) conversion

-- A function is viable: the counts agree, and each argument converts.
pub record IsViable (classes : List ClassInfo) (given : List CoreType) (signature : Signature) : Type 0 where
  pub same_count : length signature.parameters ≡ length given
  pub each : (at : ℕ) (argument parameter : CoreType) → slice_get given at ≡ Some argument → slice_get signature.parameters at ≡ Some parameter
      → (conversion : Conversion) × IsPassed classes argument parameter conversion

-- One conversion is better than another one: its rank is lower, or both have rank 3, their targets differ and its target converts to the other's.
abbrev pub IsBetterTo : List ClassInfo → CoreType → Conversion → CoreType → Conversion → Type 0
IsBetterTo classes first one second other =
    (one.rank < other.rank) ⊎ ((one.rank ≡ 3) × (other.rank ≡ 3) × (bare first ≡ bare second → ⊥) × ((conversion : Conversion) × IsConversion classes (bare first) (bare second) conversion))

-- An argument converts better for one parameter than for another one.
pub record IsBetter (classes : List ClassInfo) (given first second : CoreType) : Type 0 where
  pub one : Conversion
  pub other : Conversion
  pub to_first : IsPassed classes given first one
  pub to_second : IsPassed classes given second other
  pub better : IsBetterTo classes first one second other

-- An argument converts better for the parameter at its place in one list than in another one.
pub record IsBetterAt (classes : List ClassInfo) (given first second : List CoreType) (at : ℕ) : Type 0 where
  pub argument : CoreType
  pub one : CoreType
  pub other : CoreType
  pub argument_is : slice_get given at ≡ Some argument
  pub one_is : slice_get first at ≡ Some one
  pub other_is : slice_get second at ≡ Some other
  pub better : IsBetter classes argument one other

abbrev pub HasBetter : List ClassInfo → List CoreType → List CoreType → List CoreType → Type 0
HasBetter classes given first second = (at : ℕ) × IsBetterAt classes given first second at

-- A function beats another one: none of its conversions is worse, and one is better.
pub record Beats (classes : List ClassInfo) (given : List CoreType) (first second : Signature) : Type 0 where
  pub none_worse : HasBetter classes given second.parameters first.parameters → ⊥
  pub one_better : HasBetter classes given first.parameters second.parameters

-- The same of candidates by their places.
pub record IsViableAt (classes : List ClassInfo) (given : List CoreType) (candidates : List Signature) (at : ℕ) : Type 0 where
  pub signature : Signature
  pub is : slice_get candidates at ≡ Some signature
  pub viable : IsViable classes given signature

pub record BeatsAt (classes : List ClassInfo) (given : List CoreType) (candidates : List Signature) (one other : ℕ) : Type 0 where
  pub first : Signature
  pub second : Signature
  pub first_is : slice_get candidates one ≡ Some first
  pub second_is : slice_get candidates other ≡ Some second
  pub beats : Beats classes given first second

-- a candidate beats all other viable ones
abbrev pub BeatsOthers : List ClassInfo → List CoreType → List Signature → ℕ → Type 0
BeatsOthers classes given candidates one =
    (other : ℕ) → IsViableAt classes given candidates other → (other ≡ one → ⊥) → BeatsAt classes given candidates one other

-- no candidate before a place is viable
abbrev pub NoneViableBefore : List ClassInfo → List CoreType → List Signature → ℕ → Type 0
NoneViableBefore classes given candidates at = (k : ℕ) → k < at → IsViableAt classes given candidates k → ⊥

-- The first viable candidate, besides one of them, that this one doesn't beat.
pub record IsFirstUnbeaten (classes : List ClassInfo) (given : List CoreType) (candidates : List Signature) (one other : ℕ) : Type 0 where
  pub viable : IsViableAt classes given candidates other
  pub another : other ≡ one → ⊥
  pub unbeaten : BeatsAt classes given candidates one other → ⊥
  pub before : (k : ℕ) → k < other → IsViableAt classes given candidates k → (k ≡ one → ⊥) → BeatsAt classes given candidates one k

-- No viable candidate beats all others: it is a tie of the first viable one, and of the first that this one doesn't beat.
pub record IsTie (classes : List ClassInfo) (given : List CoreType) (candidates : List Signature) (first second : ℕ) : Type 0 where
  pub viable : IsViableAt classes given candidates first
  pub none_before : NoneViableBefore classes given candidates first
  pub unbeaten : IsFirstUnbeaten classes given candidates first second
  pub no_best : (one : ℕ) → IsViableAt classes given candidates one → BeatsOthers classes given candidates one → ⊥

-- which candidate a call takes
abbrev pub IsChoice : List ClassInfo → List CoreType → List Signature → Choice → Type 0
IsChoice classes given candidates (choice.One one) = IsViableAt classes given candidates one × BeatsOthers classes given candidates one
IsChoice classes given candidates choice.None = (at : ℕ) → IsViableAt classes given candidates at → ⊥
IsChoice classes given candidates (choice.Tie first second) = IsTie classes given candidates first second
