use Rattle.std.proofs.Common.{◌≡◌, ◌-◌, length}
use Rattle.cc_execution.specs.Handlers.{reaches}
use Rattle.cc_handlers.proofs.classes.derives.Given as goal

abbrev pub invariant-loop : goal.invariant-loop
invariant-loop l = reaches l.classes (length l.classes) l.fn.class l.token ≡ reaches l.classes (length l.classes - l.counter) l.at l.token
