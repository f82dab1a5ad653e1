-- Which of several functions a call takes (ECMA-372, 14.1; ISO/IEC 14882:2003, 13.3): what typing makes of the choice.
use Rattle.std.specs.Prelude.{ℕ, List, map, Ok}
use Rattle.cc_base.specs.declared.text.Span.{Span}
use Rattle.cc_base.specs.declared.kind.Kind.TheVariants as kind
use Rattle.cc_tree.specs.declared.type_name.FundamentalType.{FundamentalType}
use Rattle.cc_core.specs.declared.types.ClassInfo.{ClassInfo}
use Rattle.cc_core.specs.declared.types.CoreType.{CoreType}
use Rattle.cc_convert.specs.declared.overload.Signature.{Signature}
use Rattle.cc_convert.specs.declared.overload.Choice.{Choice}
use Rattle.cc_convert.specs.declared.overload.Choice.TheVariants as choice
use Rattle.cc_convert.specs.Overloads.{IsChoice}
use Rattle.cc_operations.specs.Numbers.{core_type}
use Rattle.cc_operations.specs.Judgements.{Judged, refused}

abbrev pub Types : Type 0
Types = List FundamentalType

-- the types of arguments, and of the parameters of candidates, as those between which conversions are chosen
abbrev pub given_types : Types → List CoreType
given_types types = map core_type types

abbrev pub signature_of : Types → Signature
signature_of types = record { parameters = given_types types }

abbrev pub signatures_of : List Types → List Signature
signatures_of candidates = map signature_of candidates

-- which of some candidates a call takes with arguments of these types
abbrev pub Pick : Type 0
Pick = List Types → Types → Choice

-- It is the choice that the language makes.
abbrev pub Chooses : List ClassInfo → Pick → Type 0
Chooses classes pick = (candidates : List Types) (arguments : Types) → IsChoice classes (given_types arguments) (signatures_of candidates) (pick candidates arguments)

-- The place of the candidate that is taken; a call is refused where none is viable, and where none beats all others.
abbrev pub taken : Choice → Span → Judged ℕ
taken (choice.One best) span = Ok best
taken choice.None span = refused kind.NoOverload span
taken (choice.Tie first second) span = refused kind.AmbiguousCall span
