use Rattle.std.proofs.Common.{◌≡◌, ◌+◌, ◌≤◌, ◌++◌, drop, length}
use Rattle.cc_execution.specs.Operations.{loaded}
use Rattle.cc_decode.specs.Scope.{variables_from}
use Rattle.cc_decode.proofs.variables.Variables.of.Given as goal

abbrev pub invariant-loop-i : goal.invariant-loop-i
invariant-loop-i l = record {
  placed : l.arguments ++ variables_from l.loaded (drop l.i l.parameters) ≡ variables_from 0 l.parameters;
  counted : l.loaded + length (loaded (drop l.i l.parameters)) ≡ length (loaded l.parameters);
  few : l.loaded ≤ l.i;
}
