use Rattle.std.proofs.Common.{rules, ◌≡◌, ◌+◌, Err, ap, drop}
use Rattle.cc_image.proofs.Loops.{method_ends}
use Rattle.cc_image.proofs.bodies.read_bodies.Goals as goal

pub returns-in_err-done-clause-fault : goal.returns-in_err-done-clause-fault
returns-in_err-done-clause-fault c f e n =
    let same : c.in_err-done.field-0.0 ≡ f = search rules in
    let i = c.loop-method.method-index in
    let rest = drop (i + 1) c.args.methods.now in
    method_ends c.args.methods.now i _ _ c.method-item.result c.args.bytes.now _ f c.loop-method-test.true c.method-item.is c.loop-method.invariant.fault (c.in_err-done.ensures.fault rest f (ap Err same) n)
