use Rattle.std.proofs.Common.{ap, ◌∙◌}
use Rattle.cc_handlers.specs.Pendings.{pendings}
use Rattle.cc_handlers.proofs.Stacking.{entered}
use Rattle.cc_handlers.proofs.reasons.PendingStack.enter_handler.Goals as goal

pub returns-clause-now : goal.returns-clause-now
returns-clause-now c = ap pendings c.in_ok-push.ensures.items ∙ entered c.args.self.now.running.items c.args.pending
