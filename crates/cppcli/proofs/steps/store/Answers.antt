use Rattle.std.proofs.Common.{ap}
use Rattle.std.specs.Prelude.{Err}
use Rattle.cppcli.proofs.StepLemmas.{stop_of_fault}
use Rattle.cppcli.proofs.steps.store.Goals as goal

pub returns-in-Err-Failed-clause-store : goal.returns-in-Err-Failed-clause-store
returns-in-Err-Failed-clause-store g c =
    stop_of_fault c.write_fault.result c.args.name.now _ _ (c.write_fault.ensures c.args.name.now) (c.in-Err-Failed.ensures.failed (ap Err c.in-Err-Failed.field-0-is))
    (λ quiet. (c.in-Err-Failed.ensures.quiet quiet).2 (ap Err c.in-Err-Failed.field-0-is))

pub returns-in-Err-Failed-clause-memory : goal.returns-in-Err-Failed-clause-memory
returns-in-Err-Failed-clause-memory g c is = absurd (let fault = c.write_fault.ensures c.args.name.now in cc)
