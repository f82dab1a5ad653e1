use Rattle.std.proofs.Common.{◌≡◌, ◌++◌, drop, map}
use Rattle.cc_verify.specs.Types.{local_types}
use Rattle.cc_verify.proofs.naming.locals_types.Given as goal

abbrev pub invariant-loop-reading : goal.invariant-loop-reading
invariant-loop-reading l = l.types ++ map local_types (drop l.reading-index l.readings) ≡ map local_types l.readings
