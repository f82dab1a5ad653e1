use Rattle.std.proofs.Common.{take}
use Rattle.std.specs.List.{flat_map}
use Rattle.cc_tables.specs.Numbering.{Meets}
use Rattle.cc_tables.proofs.row.number_rows.Given as goal

-- the rows before have been met
abbrev pub invariant-loop-row : goal.invariant-loop-row
invariant-loop-row g l = Meets l.fn.into l.into (flat_map g.R.Row.cells (take l.row-index l.rows))
