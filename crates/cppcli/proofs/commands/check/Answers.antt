use Rattle.std.proofs.Common.{sym, subst}
use Rattle.cc_words.specs.declared.command.Command.TheVariants.{Check}
use Rattle.cppcli.specs.Answers.{FilesRun, IsOutcomeOf}
use Rattle.cppcli.proofs.StepLemmas.{check_outcome}
use Rattle.cppcli.proofs.commands.check.Goals as goal

pub returns-clause-outcome : goal.returns-clause-outcome
returns-clause-outcome g c bound arguments =
    let run : FilesRun = record { before = g.F.Files.state c.args.files.now; after = g.F.Files.state c.load.new.files; quiet = g.F.Files.quiet c.args.files.now } in
    let types = rw c.deref.ensures.value at c.in_ok-type_source.ensures in
    subst (λ outcome. IsOutcomeOf (record { command = Check; file = c.args.file.now; bound = bound; arguments = arguments }) run outcome) (sym c.done.ensures)
    (check_outcome run c.args.file.now bound arguments c.in_ok-bytes.bytes.items _ c.in_ok-bytes.ensures.load.0 c.in_ok-bytes.ensures.load.1 types)
