-- The refusal that decides of tests is the first of those that they refuse for.
use Rattle.std.proofs.Common.{◌≡◌, List, [], ◌∷◌, ◌++◌, Bool, true, false, Option, Some, None, refl, sym, ap, subst, ◌∙◌}
use Rattle.cc_tree.specs.declared.unit.Unit.{Unit}
use Rattle.cc_base.specs.declared.text.Span.{Span}
use Rattle.cc_base.specs.declared.kind.Kind.{Kind}
use Rattle.cc_names.specs.declared.refusal.NameKind.{NameKind}
use Rattle.cc_names.specs.declared.refusal.Refusal.{Refusal}
use Rattle.cc_names.specs.Checks.{Checks, none, refused_if, both, run, refusals, earlier_of, first_after}
use Rattle.cc_names.specs.declared.fault.NameFault.{NameFault}
use Rattle.cc_names.specs.declared.fault.NameFault.TheVariants as fault_
use Rattle.cc_names.specs.Faults as faults
use Rattle.cc_names.specs.Faults.{pair_of, Refuses}
use Rattle.cc_names.specs.Refusals.{unit_checks, refusal}

first_append : (so_far : Option Refusal) (xs ys : List Refusal) → first_after so_far (xs ++ ys) ≡ first_after (first_after so_far xs) ys
first_append so_far [] ys = refl
first_append so_far (x ∷ xs) ys = first_append (earlier_of so_far x) xs ys

run_one : (holds : Bool) (kind : NameKind) (span : Span) (so_far : Option Refusal) → run (refused_if holds kind span) so_far ≡ first_after so_far (refusals (refused_if holds kind span))
run_one true kind span so_far = refl
run_one false kind span so_far = refl

run_first : (checks : Checks) (so_far : Option Refusal) → run checks so_far ≡ first_after so_far (refusals checks)
run_first none so_far = refl
run_first (refused_if holds kind span) so_far = run_one holds kind span so_far
run_first (both first second) so_far =
    ap (run second) (run_first first so_far) ∙ run_first second (first_after so_far (refusals first)) ∙ sym (first_append so_far (refusals first) (refusals second))

-- what a unit is refused for, by its tests
pub refusal_run : (unit : Unit) → refusal unit ≡ pair_of (run (unit_checks unit) None)
refusal_run unit = ap pair_of (sym (run_first (unit_checks unit) None))

pub memory_refuses : (fault : NameFault) (other : Option (Kind × Span)) → fault ≡ fault_.Memory → Refuses (faults.refusal fault) other
memory_refuses fault other e = subst (λ (f : NameFault). Refuses (faults.refusal f) other) (sym e) tt

pub fault_refuses : (fault : NameFault) (one : Refusal) (unit : Unit) → faults.refusal fault ≡ pair_of (Some one) → run (unit_checks unit) None ≡ Some one → Refuses (faults.refusal fault) (refusal unit)
fault_refuses fault one unit e f = subst (λ (r : Option (Kind × Span)). Refuses r (refusal unit)) (sym e) (refusal_run unit ∙ ap pair_of f)

pub accepted : (unit : Unit) → run (unit_checks unit) None ≡ None → refusal unit ≡ None
accepted unit e = refusal_run unit ∙ ap pair_of e
