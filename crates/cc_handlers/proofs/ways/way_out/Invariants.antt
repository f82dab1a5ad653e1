use Rattle.std.proofs.Common.{◌≡◌, ◌≤◌, drop}
use Rattle.cc_handlers.specs.Ways.{way_out}
use Rattle.cc_handlers.proofs.Walking.{after}
use Rattle.cc_handlers.proofs.ways.way_out.Given as goal

abbrev pub invariant-loop-clause : goal.invariant-loop-clause
invariant-loop-clause l = record {
  few : l.left ≤ l.clause-index;
  so_far : way_out l.classes l.departure l.at l.clauses ≡ after l.left (way_out l.classes l.departure l.at (drop l.clause-index l.clauses));
}
