-- Laws of conversions and of overloads.
use Rattle.std.specs.Prelude.{◌≡◌, ℕ, ◌<◌, List, Some, map, length, slice_get}
use Rattle.cc_core.specs.declared.types.ClassInfo.{ClassInfo}
use Rattle.cc_core.specs.declared.types.CoreType.{CoreType}
use Rattle.cc_core.specs.Types.{BareType, bare}
use Rattle.cc_convert.specs.declared.conversion.Conversion.{Conversion}
use Rattle.cc_convert.specs.declared.overload.Signature.{Signature}
use Rattle.cc_convert.specs.declared.overload.Choice.{Choice}
use Rattle.cc_convert.specs.declared.overload.Choice.TheVariants as choice
use Rattle.cc_convert.specs.Conversions.{IsConversion}
use Rattle.cc_convert.specs.Overloads.{IsViableAt, IsChoice}

-- between two types there is at most one implicit conversion, and so one rank
abbrev pub OneConversion : Type 0
OneConversion =
    (classes : List ClassInfo) (from to : BareType) (one other : Conversion)
    → IsConversion classes from to one → IsConversion classes from to other → one ≡ other

-- some candidates have the same types of parameters
abbrev pub AreEqual : List Signature → Type 0
AreEqual candidates =
    (one other : ℕ) (first second : Signature)
    → slice_get candidates one ≡ Some first → slice_get candidates other ≡ Some second → map bare first.parameters ≡ map bare second.parameters

-- a call takes at most one choice
abbrev pub OneChoice : Type 0
OneChoice =
    (classes : List ClassInfo) (given : List CoreType) (candidates : List Signature) (one other : Choice)
    → IsChoice classes given candidates one → IsChoice classes given candidates other → one ≡ other

-- where all candidates, of which there are two or more, are equal in types and viable, it is a tie of the first two
abbrev pub EqualTie : Type 0
EqualTie =
    (classes : List ClassInfo) (given : List CoreType) (candidates : List Signature) (one : Choice)
    → AreEqual candidates → 1 < length candidates → IsViableAt classes given candidates 0 → IsChoice classes given candidates one → one ≡ choice.Tie 0 1
