use Rattle.std.proofs.Common.{◌≡◌, drop}
use Rattle.cc_execution.specs.Handlers.{names}
use Rattle.cc_handlers.proofs.classes.is_named.Given as goal

abbrev pub invariant-loop-t : goal.invariant-loop-t
invariant-loop-t l = names l.tokens l.token ≡ names (drop l.t-index l.tokens) l.token
