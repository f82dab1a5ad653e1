use Rattle.std.proofs.Common.{◌≡◌, ◌≤◌, ◌+◌, ◌*◌, ◌++◌, length, Some}
use Rattle.std.specs.List.{flat_map, AllByRecursion}
use Rattle.cc_module.specs.Signatures.{wanted, element_bytes, FitsElement}
use Rattle.cc_module.proofs.read.read_type.Given as goal

abbrev pub invariant-loop-pending : goal.invariant-loop-pending
invariant-loop-pending l = record {
  wants : wanted 1 l.elements ≡ Some l.pending;
  fits : AllByRecursion FitsElement l.elements;
  text : l.bytes ≡ flat_map element_bytes l.elements ++ l.rest;
  bound : l.pending + 536870912 * length l.rest ≤ 1 + 536870912 * length l.bytes;
}

abbrev pub decreases-loop-pending : goal.decreases-loop-pending
decreases-loop-pending l = length l.rest
