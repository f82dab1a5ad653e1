use Rattle.std.proofs.Common.{refl}
use Rattle.cppcli.proofs.StepLemmas.{executed_outcome}
use Rattle.cppcli.proofs.steps.execute.Goals as goal

pub returns : goal.returns
returns c source runs =
    executed_outcome source c.args.arguments.now c.args.steps c.in_ok-executed.executed
    (record { status = c.status_of-status.result; output = c.in_ok-executed.executed.output; note = c.in_ok-note.note })
    runs.short (c.in_ok-executed.ensures source runs) c.status_of-status.ensures refl c.in_ok-note.ensures
