use Rattle.std.proofs.Common.{◌≡◌, List, Some, Contains, slice_get, map, subst, sym, ◌∙◌}
use Rattle.cc_base.specs.declared.identifiers.ClassId.{ClassId}
use Rattle.cc_core.specs.Classes.{parts}
use Rattle.cc_core.specs.Search.{IsTable, IsClosure}
use Rattle.cc_core.proofs.Tables.{part-table, no_cycle-from_rows}
use Rattle.cc_core.proofs.classes.check_parts.Goals as goal

pub closure-requires-clause-table : goal.closure-requires-clause-table
closure-requires-clause-table c =
    let same : c.as_slice.result.now ≡ map parts c.args.classes.now = c.as_slice.ensures ∙ c.in_ok-table.ensures in
    subst IsTable (sym same) (part-table c.args.classes.now c.requires.within)

pub returns-clause-ok : goal.returns-clause-ok
returns-clause-ok c =
    let same : c.as_slice.result.now ≡ map parts c.args.classes.now = c.as_slice.ensures ∙ c.in_ok-table.ensures in
    let rows = subst (λ steps. IsClosure steps c.in_ok-rows.rows) same c.in_ok-rows.ensures in
    let none = subst (λ all. (class : ClassId) (row : List ClassId) → slice_get all class.0 ≡ Some row → Contains row class → ⊥) c.as_slice-2.ensures c.in-None.ensures in
    no_cycle-from_rows (map parts c.args.classes.now) c.in_ok-rows.rows rows none
