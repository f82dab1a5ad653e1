use Rattle.std.proofs.Common.{◌≤◌, length, ap, ◌∙◌, sym, arith}
use Rattle.cc_handlers.specs.Pendings.{pendings}
use Rattle.cc_handlers.proofs.Stacking.{without_all, pendings_count, without_last}
use Rattle.cc_handlers.proofs.reasons.PendingStack.leave_handlers.Goals as goal

pub returns-then-left-count-clause-now : goal.returns-then-left-count-clause-now
returns-then-left-count-clause-now c =
    let v = c.args.self.now.running in
    let few : length (pendings v.items) ≤ c.args.left = omega (arith, pendings_count v.items, c.len-count.ensures, v.ok.0, c.if-left-count.true) in
    ap pendings c.clear.ensures.items ∙ sym (without_all c.args.left (pendings v.items) few)

pub returns-else-left-count-clause-now : goal.returns-else-left-count-clause-now
returns-else-left-count-clause-now c =
    let v = c.args.self.now.running in
    let few : c.args.left ≤ length v.items = omega (arith, c.len-count.ensures, v.ok.0, c.if-left-count.false) in
    ap pendings c.truncate.ensures.items ∙ without_last c.args.left _ v.items few (omega (arith, c.len-count.ensures, v.ok.0))
