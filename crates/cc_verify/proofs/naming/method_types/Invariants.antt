use Rattle.std.proofs.Common.{◌≡◌, ◌++◌, drop, map}
use Rattle.cc_verify.specs.Types.{method_type}
use Rattle.cc_verify.proofs.naming.method_types.Given as goal

abbrev pub invariant-loop-reading : goal.invariant-loop-reading
invariant-loop-reading l = l.types ++ map method_type (drop l.reading-index l.readings) ≡ map method_type l.readings
