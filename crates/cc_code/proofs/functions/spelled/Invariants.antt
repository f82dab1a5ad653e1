use Rattle.std.proofs.Common.{◌≡◌, take}
use Rattle.std.specs.List.{flat_map}
use Rattle.cc_cil.specs.Instructions.{spelling}
use Rattle.cc_code.proofs.functions.spelled.Given as goal

abbrev pub invariant-loop-instruction : goal.invariant-loop-instruction
invariant-loop-instruction l = l.bytes.items ≡ flat_map spelling (take l.instruction-index l.code)
