use Rattle.cc_dispose.proofs.Frames.{keeps_the_run}
use Rattle.cc_dispose.proofs.Functions.{lowered_fits, lowered_program}
use Rattle.cc_dispose.proofs.program.lower.Goals as goal

pub new-requires : goal.new-requires
new-requires c =
    lowered_fits c.args.program.now c.classes.result.now c.bodies.result.now c.in_ok-functions.functions c.main.result
    c.classes.ensures.value c.bodies.ensures c.in_ok-functions.ensures c.main.ensures c.classes.ensures.sound

pub returns-clause-keeps : goal.returns-clause-keeps
returns-clause-keeps c =
    keeps_the_run c.args.program.now c.new.result
    (lowered_program c.args.program.now c.classes.result.now c.bodies.result.now c.in_ok-functions.functions c.main.result
    c.classes.ensures.value c.bodies.ensures c.in_ok-functions.ensures c.main.ensures c.new.result c.new.ensures)
