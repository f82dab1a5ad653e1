use Rattle.std.proofs.Common.{◌≡◌, ◌++◌, length}
use Rattle.std.specs.List.{AllByRecursion}
use Rattle.cc_module.specs.Signatures.{IsType, types_bytes}
use Rattle.cc_module.proofs.read.read_types.Given as goal

abbrev pub invariant-loop : goal.invariant-loop
invariant-loop l = record {
  each : AllByRecursion IsType l.types;
  count : length l.types ≡ l.counter;
  text : l.bytes ≡ types_bytes l.types ++ l.rest;
}
