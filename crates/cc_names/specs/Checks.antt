-- What is tested in a part of a source, and which refusal comes first: the one at the earlier place, and at one place the one of the lower kind.
use Rattle.std.specs.Prelude.{ℕ, List, [], ◌∷◌, ◌++◌, Bool, true, false, cond, ◌&&◌, ◌||◌, ◌==◌, nat_lt, Option, Some, None}
use Rattle.cc_base.specs.declared.text.Span.{Span}
use Rattle.cc_names.specs.declared.refusal.NameKind.{NameKind}
use Rattle.cc_names.specs.declared.refusal.NameKind.TheVariants as kind
use Rattle.cc_names.specs.declared.refusal.Refusal.{Refusal}

-- Tests, one after another.
pub data Checks : Type 0 where
  none : Checks
  -- a refusal of a kind at a place, where something holds
  refused_if : Bool → NameKind → Span → Checks
  both : Checks → Checks → Checks

abbrev pub joined : List Checks → Checks
joined [] = none
joined (one ∷ more) = both one (joined more)

-- the refusals, in the order of the tests
abbrev pub refusals : Checks → List Refusal
refusals none = []
refusals (refused_if holds kind span) = cond holds (record { kind = kind; span = span } ∷ []) []
refusals (both first second) = refusals first ++ refusals second

abbrev pub number : NameKind → ℕ
number kind.Duplicate = 20
number kind.UnknownName = 21
number kind.NotAType = 22
number kind.CyclicBase = 23
number kind.SealedBase = 24
number kind.ReservedMember = 25
number kind.BadMain = 26

-- an earlier first byte, or the lower kind at one first byte
abbrev pub is_before : Refusal → Refusal → Bool
is_before one other = nat_lt one.span.first other.span.first || (one.span.first == other.span.first && nat_lt (number one.kind) (number other.kind))

-- of an earlier refusal and a later one, the one that decides
abbrev pub earlier_of : Option Refusal → Refusal → Option Refusal
earlier_of None one = Some one
earlier_of (Some first) one = cond (is_before one first) (Some one) (Some first)

-- the one that decides of some refusals, after an earlier one
abbrev pub first_after : Option Refusal → List Refusal → Option Refusal
first_after so_far [] = so_far
first_after so_far (one ∷ more) = first_after (earlier_of so_far one) more

abbrev pub first_refusal : List Refusal → Option Refusal
first_refusal refused = first_after None refused

-- the one that decides of what tests refuse, after an earlier one
abbrev pub run : Checks → Option Refusal → Option Refusal
run none so_far = so_far
run (refused_if holds kind span) so_far = cond holds (earlier_of so_far (record { kind = kind; span = span })) so_far
run (both first second) so_far = run second (run first so_far)
