-- The refusals of a unit, from those of its parts.
use Rattle.std.proofs.Common.{◌≡◌, ◌∙◌, ap, List, map, Option, None, false}
use Rattle.std.specs.List.{flat_map}
use Rattle.cc_tree.specs.declared.unit.Unit.{Unit}
use Rattle.cc_names.specs.Checks.{run, joined}
use Rattle.cc_names.specs.Duplicates.{duplicate_checks}
use Rattle.cc_names.specs.Library.{declared}
use Rattle.cc_names.specs.Outermost.{Standing, standings}
use Rattle.cc_names.specs.Refusals.{standing_checks, space_of, main_checks, main_of, unit_checks}
use Rattle.cc_names.specs.Spaces.{Space}
use Rattle.cc_names.specs.declared.refusal.Refusal.{Refusal}

pub together : (unit : Unit) (all : List Standing) (space : Space) (first second : Option Refusal) → all ≡ standings unit → space ≡ space_of all
    → first ≡ run (duplicate_checks (declared unit).scopes (declared unit).items) None → second ≡ run (joined (map (standing_checks space) all)) first → run (main_checks false (flat_map main_of all)) second ≡ run (unit_checks unit) None
together unit all space first second is here doubled stood =
    ap (λ (o : Option Refusal). run (main_checks false (flat_map main_of all)) o) (stood ∙ ap (λ (s : Space). run (joined (map (standing_checks s) all)) first) here ∙ ap (λ (o : Option Refusal). run (joined (map (standing_checks (space_of all)) all)) o) doubled)
    ∙ ap (λ (some : List Standing). run (main_checks false (flat_map main_of some)) (run (joined (map (standing_checks (space_of some)) some)) (run (duplicate_checks (declared unit).scopes (declared unit).items) None))) is
