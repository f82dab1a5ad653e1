use Rattle.std.proofs.Common.{◌≡◌, length, take}
use Rattle.cc_verify.specs.Rules.{entries}
use Rattle.cc_verify.specs.Passes.{IsTable}
use Rattle.cc_verify.proofs.pass.entries.Given as goal

abbrev pub invariant-loop-clause : goal.invariant-loop-clause
invariant-loop-clause l = record {
  table : IsTable l.known.items (entries l.environment (take l.clause-index l.clauses));
  long : length l.known.items ≡ l.size;
}
