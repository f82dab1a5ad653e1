use Rattle.std.proofs.Common.{inr, refl, sym, subst}
use Rattle.cc_words.specs.declared.command.Command.TheVariants.{Verify}
use Rattle.cppcli.specs.Answers.{FilesRun, IsOutcomeOf, done}
use Rattle.cppcli.proofs.StepLemmas.{end_of_stop, verify_outcome, verify_stopped}
use Rattle.cppcli.proofs.commands.verify.Goals as goal

pub returns-in_err-verify_module-clause-outcome : goal.returns-in_err-verify_module-clause-outcome
returns-in_err-verify_module-clause-outcome g c bound arguments =
    let run : FilesRun = record { before = g.F.Files.state c.args.files.now; after = g.F.Files.state c.load.new.files; quiet = g.F.Files.quiet c.args.files.now } in
    let read = rw c.deref.ensures.value at c.in_ok-module.ensures in
    end_of_stop c.from_residual-in_err-verify_module.result c.in_err-verify_module.field-0.0 _ c.from_residual-in_err-verify_module.ensures.1
    (verify_stopped run c.args.file.now bound arguments c.in_ok-bytes.bytes.items c.in_ok-module.«module» c.in_err-verify_module.field-0.0 c.in_ok-bytes.ensures.load.0 c.in_ok-bytes.ensures.load.1 read c.in_err-verify_module.ensures)

pub returns-clause-outcome : goal.returns-clause-outcome
returns-clause-outcome g c bound arguments =
    let run : FilesRun = record { before = g.F.Files.state c.args.files.now; after = g.F.Files.state c.load.new.files; quiet = g.F.Files.quiet c.args.files.now } in
    let read = rw c.deref.ensures.value at c.in_ok-module.ensures in
    subst (λ outcome. IsOutcomeOf (record { command = Verify; file = c.args.file.now; bound = bound; arguments = arguments }) run outcome) (sym c.done.ensures)
    (verify_outcome run c.args.file.now bound arguments c.in_ok-bytes.bytes.items c.in_ok-module.«module» done c.in_ok-bytes.ensures.load.0 c.in_ok-bytes.ensures.load.1 read (inr (c.in_ok-verify_module.ensures.1, refl)))
