use Rattle.std.proofs.Common.{◌≡◌, ◌≤◌, ◌+◌, ◌^◌, drop}
use Rattle.cc_base.specs.Cells.{strings_cells, arguments_cells}
use Rattle.cc_machine_next.proofs.arguments.cells_of.Given as goal

abbrev pub invariant-loop-text : goal.invariant-loop-text
invariant-loop-text l = (l.total + strings_cells (drop l.text-index l.arguments) ≡ arguments_cells l.arguments) × (l.total ≤ 2 ^ 33)
