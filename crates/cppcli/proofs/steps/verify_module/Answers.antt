use Rattle.cppcli.proofs.StepLemmas.{rule_stopped}
use Rattle.cppcli.proofs.steps.verify_module.Goals as goal

pub returns-in-Err : goal.returns-in-Err
returns-in-Err c = rule_stopped c.args.«module» c.args.file.now c.in-Err.refusal.fault c.rule_stop.result c.in-Err.ensures.1 c.rule_stop.ensures
