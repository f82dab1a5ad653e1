use Rattle.cc_dispose.proofs.Functions.{next_function}
use Rattle.cc_dispose.proofs.program.lower_functions.Goals as goal

pub loop-body-preserved : goal.loop-body-preserved
loop-body-preserved c =
    next_function c.args.bodies.now c.loop-body.body-index c.body-item.result c.loop-body.functions c.in_ok-lower_function.field-0 c.loop-body-test.true c.body-item.is
    c.loop-body.invariant c.in_ok-lower_function.ensures c.push.new.self c.in_ok-push.ensures.ok
