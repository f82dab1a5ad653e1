-- What the sections of a switch do in order is what those do that its value chooses.
use Rattle.std.proofs.Common.{◌≡◌, ℕ, List, Bool, true, false, [], refl, ap, sym, ◌∙◌}
use Rattle.cc_core.specs.declared.state.State.{State}
use Rattle.cc_core.specs.declared.types.ClassInfo.{ClassInfo}
use Rattle.cc_core.specs.declared.world.Value.{Value}
use Rattle.cc_core.specs.declared.state.Exit.{Exit}
use Rattle.cc_core.specs.Run.{Calls, Does, Ran}
use Rattle.cc_core.specs.Step.{Sections, no_sections, next_section}
use Rattle.cc_core.specs.Leave.{find_case, has_default, by_case, then_step}
use Rattle.cc_core.specs.Outcome.{scope_of, matching, defaulting, following}
use Rattle.cc_mean.specs.Chosen.{from_default, found_or, chosen_from}
use Rattle.std.specs.Prelude.{if◌then◌else◌}

module _ (w : List ClassInfo) (k : Calls) (n : ℕ) where
  -- what chosen sections do
  abbrev pub go : Sections × State → Ran Exit
  go (sections, s) = following w k n sections s

  by_default : (b : Bool) (here : Sections) (more : Sections) (s : State) (r : Ran Exit) → r ≡ following w k n more s
      → (if b then following w k n here s else r) ≡ following w k n (if b then here else more) s
  by_default true here more s r e = refl
  by_default false here more s r e = e

  pub defaulting_is : (sections : Sections) (s : State) → defaulting w k n sections s ≡ following w k n (from_default sections) s
  defaulting_is no_sections s = refl
  defaulting_is (next_section labels body rest) s =
      by_default (has_default labels) (next_section labels body rest) (from_default rest) s (defaulting w k n rest s) (defaulting_is rest s)

  by_found : (f : Bool × State) (here : Sections) (run : Does Exit) (other : Does Exit) (more : State → Sections × State)
      → ((s : State) → run s ≡ following w k n here s) → ((s : State) → other s ≡ go (more s)) → by_case f run other ≡ go (found_or f here more)
  by_found (true, s) here run other more e h = e s
  by_found (false, s) here run other more e h = h s

  pub matching_is : (all : Sections) (v : Value) (sections : Sections) (s : State)
      → matching w k n sections v (defaulting w k n all) s ≡ go (chosen_from all v sections s)
  matching_is all v no_sections s = defaulting_is all s
  matching_is all v (next_section labels body rest) s =
      by_found (find_case v labels s) (next_section labels body rest)
      (λ s1. then_step (scope_of w k n [] body s1) (following w k n rest)) (λ s1. matching w k n rest v (defaulting w k n all) s1) (chosen_from all v rest)
      (λ s1. refl) (λ s1. matching_is all v rest s1)

  -- the sections that a search has found
  pub chosen_is : (all : Sections) (v : Value) (s : State) (from : Sections) (t : State) → (from, t) ≡ chosen_from all v all s
      → matching w k n all v (defaulting w k n all) s ≡ following w k n from t
  chosen_is all v s from t e = matching_is all v all s ∙ ap go (sym e)
