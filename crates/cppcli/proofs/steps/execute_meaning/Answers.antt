use Rattle.std.proofs.Common.{refl}
use Rattle.cppcli.specs.Answers.{meaning_of}
use Rattle.cppcli.proofs.StepLemmas.{meant_outcome}
use Rattle.cppcli.proofs.steps.execute_meaning.Goals as goal

pub returns : goal.returns
returns c =
    meant_outcome (meaning_of c.args.program.now c.args.arguments.now c.args.turns) c.in_ok-executed.executed.end
    (record { status = c.meant_status-status.result; output = c.in_ok-executed.executed.output; note = c.in_ok-note.note })
    c.in_ok-executed.ensures.end c.meant_status-status.ensures c.in_ok-executed.ensures.output c.in_ok-note.ensures
