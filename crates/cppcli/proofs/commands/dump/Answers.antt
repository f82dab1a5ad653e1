use Rattle.std.proofs.Common.{sym, subst}
use Rattle.cc_words.specs.declared.command.Command.TheVariants.{Dump}
use Rattle.cppcli.specs.declared.outcome.Stop.TheVariants.{OutOfMemory}
use Rattle.cppcli.specs.Answers.{FilesRun, IsOutcomeOf}
use Rattle.cppcli.proofs.StepLemmas.{dump_outcome, end_of_stop}
use Rattle.cppcli.proofs.commands.dump.Goals as goal

pub returns-clause-outcome : goal.returns-clause-outcome
returns-clause-outcome g c bound arguments =
    let run : FilesRun = record { before = g.F.Files.state c.args.files.now; after = g.F.Files.state c.load.new.files; quiet = g.F.Files.quiet c.args.files.now } in
    let read = rw c.deref.ensures.value at c.in_ok-module.ensures in
    subst (λ outcome. IsOutcomeOf (record { command = Dump; file = c.args.file.now; bound = bound; arguments = arguments }) run outcome) (sym c.printed.ensures)
    (dump_outcome run c.args.file.now bound arguments c.in_ok-bytes.bytes.items c.in_ok-module.«module» c.in_ok-text.text.items c.in_ok-bytes.ensures.load.0 c.in_ok-bytes.ensures.load.1 read c.in_ok-text.ensures)

pub returns-in_err-text-clause-outcome : goal.returns-in_err-text-clause-outcome
returns-in_err-text-clause-outcome g c bound arguments = end_of_stop c.from_residual-in_err-text.result OutOfMemory _ c.from_residual-in_err-text.ensures.1 tt
