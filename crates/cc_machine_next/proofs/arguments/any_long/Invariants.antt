use Rattle.std.proofs.Common.{◌≡◌, drop}
use Rattle.cc_base.specs.Cells.{any_long}
use Rattle.cc_machine_next.proofs.arguments.any_long.Given as goal

abbrev pub invariant-loop-text : goal.invariant-loop-text
invariant-loop-text l = any_long (drop l.text-index l.arguments) ≡ any_long l.arguments
