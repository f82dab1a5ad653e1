use Rattle.std.proofs.Common.{◌≡◌}
use Rattle.cc_verify.proofs.Coded.{Leads}
use Rattle.cc_verify.proofs.codes.code_fault.Given as goal

abbrev pub invariant-loop-before : goal.invariant-loop-before
invariant-loop-before l = record {
  same : l.around ≡ l.fn.environment;
  leads : Leads l.«module» l.fn.environment l.before;
}
