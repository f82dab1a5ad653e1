use Rattle.std.proofs.Common.{◌≡◌, List, Some, Contains, slice_get, map, subst, sym, ◌∙◌}
use Rattle.cc_base.specs.declared.identifiers.ClassId.{ClassId}
use Rattle.cc_core.specs.Classes.{parents}
use Rattle.cc_core.specs.Search.{IsTable, IsClosure}
use Rattle.cc_core.proofs.Tables.{parent-table, no_cycle-from_rows}
use Rattle.cc_core.proofs.classes.ancestors_of.Goals as goal

pub closure-requires-clause-table : goal.closure-requires-clause-table
closure-requires-clause-table c =
    let same : c.as_slice.result.now ≡ map parents c.args.classes.now = c.as_slice.ensures ∙ c.in_ok-table.ensures in
    subst IsTable (sym same) (parent-table c.args.classes.now c.requires.within)

pub returns-clause-no_cycle : goal.returns-clause-no_cycle
returns-clause-no_cycle c =
    let same : c.as_slice.result.now ≡ map parents c.args.classes.now = c.as_slice.ensures ∙ c.in_ok-table.ensures in
    let rows = subst (λ steps. IsClosure steps c.in_ok-ancestors.ancestors) same c.in_ok-ancestors.ensures in
    let none = subst (λ all. (class : ClassId) (row : List ClassId) → slice_get all class.0 ≡ Some row → Contains row class → ⊥) c.as_slice-2.ensures c.in-None.ensures in
    no_cycle-from_rows (map parents c.args.classes.now) c.in_ok-ancestors.ancestors rows none
