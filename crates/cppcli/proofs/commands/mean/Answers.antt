use Rattle.std.proofs.Common.{map, string_bytes}
use Rattle.cppcli.specs.Answers.{FilesRun}
use Rattle.cppcli.proofs.StepLemmas.{mean_outcome}
use Rattle.cppcli.proofs.commands.mean.Goals as goal

pub returns-clause-outcome : goal.returns-clause-outcome
returns-clause-outcome g c =
    let run : FilesRun = record { before = g.F.Files.state c.args.files.now; after = g.F.Files.state c.load.new.files; quiet = g.F.Files.quiet c.args.files.now } in
    let types = rw c.deref.ensures.value at c.in_ok-program.ensures in
    mean_outcome run c.args.file.now c.args.turns (map (λ word. string_bytes word) c.args.arguments.now) c.in_ok-bytes.bytes.items c.in_ok-program.program c.in_ok-texts.texts.items c.execute_meaning.result
    c.in_ok-bytes.ensures.load.0 c.in_ok-bytes.ensures.load.1 types c.in_ok-texts.ensures.exact (rw c.as_slice.ensures.value at c.execute_meaning.ensures)
