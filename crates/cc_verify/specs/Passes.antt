-- What the verifier's pass over the code keeps: the stack that each offset has already, as a list by offsets.
--   has_at known at        what an offset has, nothing past the list's end
--   give_at known at s     with a stack given to an offset, which keeps what it has
--   Visits m known p f v   what a visit of an instruction answers
use Rattle.std.specs.Prelude.{◌≡◌, ◌⊎◌, ℕ, Bool, false, List, get_or, set, Option, Some, None, if◌then◌else◌}
use Rattle.cc_verify.specs.declared.method.Method.{Method}
use Rattle.cc_verify.specs.declared.places.Place.{Place}
use Rattle.cc_verify.specs.declared.pass.Outcome.{Outcome}
use Rattle.cc_verify.specs.declared.pass.Outcome.TheVariants.{Broken, Kept}
use Rattle.cc_verify.specs.declared.transition.Transition.{Transition}
use Rattle.cc_verify.specs.Transitions.{Stack, transition_of, is_built, falls, jump, stores_fit}
use Rattle.cc_verify.specs.Regions.{innermost_handler}
use Rattle.cc_verify.specs.Places.{starts_at}
use Rattle.cc_verify.specs.Rules.{Before, IsFirst, Keeps, Here, Given, given_to, Meets, arrival, behind, is_aimed, has_room, runs_out, keeps_regions, stands}

abbrev pub Known : Type 0
Known = List (Option Stack)

abbrev pub has_at : Known → ℕ → Option Stack
has_at known at = get_or known at None

abbrev pub first : Option Stack → Stack → Option Stack
first None s = Some s
first (Some has) s = Some has

abbrev pub give_at : Known → ℕ → Stack → Known
give_at known at s = set known at (first (has_at known at) s)

abbrev pub at_target : Known → Option ℕ → Option Stack
at_target known None = None
at_target known (Some at) = has_at known at

abbrev pub give_target : Known → Option ℕ → Stack → Known
give_target known None s = known
give_target known (Some at) s = give_at known at s

-- each offset has what is given to it first
abbrev pub IsTable : Known → Given → Type 0
IsTable known given = (at : ℕ) → has_at known at ≡ given_to given at

-- the offsets at which instructions begin
abbrev pub AreStarts : List Bool → List Place → Type 0
AreStarts starts places = (at : ℕ) → get_or starts at false ≡ starts_at places at

-- ---- the rules that need no stack behind the instruction, and those after them

abbrev pub early : Method → Place → Transition → ℕ → Option ℕ
early m p t height = if is_built m.environment m.frame t then (if is_aimed m t p.next then (if has_room m t height then None else Some 2) else Some 1) else Some 0

abbrev pub late : Method → Place → Transition → Stack → Option ℕ
late m p t s =
    if runs_out t p.next m.size then Some 5
    else if keeps_regions m p t s then (if stands t (innermost_handler m.clauses p.at) then (if stores_fit m.frame t s then None else Some 11) else Some 8)
    else Some 7

-- ---- visits

abbrev pub fallen_with : Bool → Stack → Option Stack
fallen_with falls s = if falls then Some s else None

abbrev pub here_in : Known → Place → Stack → Here
here_in known p s = record { place = p; stack = s; target_has = at_target (give_at known p.at s) (jump (transition_of p.instruction) p.next) }

abbrev pub arrives : Known → Place → Option Stack → Stack
arrives known p fallen = arrival fallen (has_at known p.at)

abbrev pub Visits : Method → Known → Place → Option Stack → Outcome → Known → Type 0
Visits m known p fallen (Broken rule) new = ((Meets fallen (has_at known p.at) → ⊥) × (rule ≡ 4)) ⊎ (Meets fallen (has_at known p.at) × IsFirst (Keeps m (here_in known p (arrives known p fallen))) rule)
Visits m known p fallen (Kept next) new =
    Meets fallen (has_at known p.at) × Before (Keeps m (here_in known p (arrives known p fallen))) 13
    × (out : Stack) × (behind m (here_in known p (arrives known p fallen)) ≡ Some out)
    × (next ≡ fallen_with (falls (transition_of p.instruction)) out)
    × (new ≡ give_target (give_at known p.at (arrives known p fallen)) (jump (transition_of p.instruction) p.next) out)

-- what is fallen in with, where it is what the place has
abbrev pub Arrives : Option Stack → Option Stack → Option Stack → Type 0
Arrives fallen has (Some s) = Meets fallen has × (s ≡ arrival fallen has)
Arrives fallen has None = Meets fallen has → ⊥
