use Rattle.std.proofs.Common.{take}
use Rattle.cc_straight.specs.Straight.{IsCodeOf}
use Rattle.cc_straight.proofs.emit.emit.Given as goal

abbrev pub invariant-loop-operation : goal.invariant-loop-operation
invariant-loop-operation l = IsCodeOf l.code.items (take l.operation-index l.operations)
