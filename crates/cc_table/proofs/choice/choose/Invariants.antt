use Rattle.std.proofs.Common.{◌≡◌, drop}
use Rattle.cc_table.specs.Choice as spec
use Rattle.cc_table.proofs.choice.choose.Given as goal

abbrev pub invariant-loop-row : goal.invariant-loop-row
invariant-loop-row l = spec.choose (spec.seen l.rows) l.input ≡ spec.choose (spec.seen (drop l.row-index l.rows)) l.input
