use Rattle.std.proofs.Common.{◌≡◌, ◌∙◌, sym, ap, List, map, Option, None, false}
use Rattle.std.proofs.lemmas.Result.{IfOk-weaker}
use Rattle.std.specs.List.{flat_map}
use Rattle.cc_names.specs.Checks.{run, joined}
use Rattle.cc_names.specs.Duplicates.{duplicate_checks}
use Rattle.cc_names.specs.Library.{declared}
use Rattle.cc_names.specs.Refusals as spec
use Rattle.cc_names.specs.Spaces as spaces
use Rattle.cc_names.specs.Told.{told_all}
use Rattle.cc_names.specs.declared.refusal.Refusal.{Refusal}
use Rattle.cc_names.specs.declared.standing.Standing.{Standing}
use Rattle.cc_names.proofs.Together.{together}
use Rattle.cc_names.proofs.declaring.first_refusal.Goals as goal

pub returns : goal.returns
returns c =
    IfOk-weaker c.main_functions.result (λ first. first ≡ run (spec.main_checks false (flat_map spec.main_of (told_all c.deref-3.result.now))) c.in_ok-first.first) (λ first. first ≡ run (spec.unit_checks c.args.unit.now) None)
    (λ first is.
    is
    ∙ ap (λ (some : List Standing). run (spec.main_checks false (flat_map spec.main_of (told_all some))) c.in_ok-first.first) c.deref-3.ensures.value
    ∙ together c.args.unit.now (told_all c.in_ok-all.all.items) (spaces.space c.in_ok-space.space) c.duplicates-first.result c.in_ok-first.first c.in_ok-all.ensures
    (c.in_ok-space.ensures ∙ ap (λ (some : List Standing). spec.space_of (told_all some)) c.deref.ensures.value)
    (c.duplicates-first.ensures
    ∙ ap (λ scopes. run (duplicate_checks scopes c.args.declarations.now.items) None) c.requires.scopes
    ∙ ap (λ items. run (duplicate_checks (declared c.args.unit.now).scopes items) None) c.requires.items)
    (c.in_ok-first.ensures ∙ ap (λ (some : List Standing). run (joined (map (spec.standing_checks (spaces.space c.in_ok-space.space)) (told_all some))) c.duplicates-first.result) c.deref-2.ensures.value))
    c.main_functions.ensures
