use Rattle.cppcli.specs.Answers.{FilesRun}
use Rattle.std.proofs.Common.{map, string_bytes}
use Rattle.cppcli.proofs.StepLemmas.{run_outcome}
use Rattle.cppcli.proofs.commands.run.Goals as goal

pub returns-clause-outcome : goal.returns-clause-outcome
returns-clause-outcome g c =
    let run : FilesRun = record { before = g.F.Files.state c.args.files.now; after = g.F.Files.state c.load.new.files; quiet = g.F.Files.quiet c.args.files.now } in
    let compiled = rw c.deref.ensures.value at c.in_ok-code.ensures in
    run_outcome run c.args.file.now c.args.steps (map (λ word. string_bytes word) c.args.arguments.now) c.in_ok-bytes.bytes.items c.in_ok-code.code c.in_ok-texts.texts.items c.execute.result
    c.in_ok-bytes.ensures.load.0 c.in_ok-bytes.ensures.load.1 compiled c.in_ok-texts.ensures.exact (rw c.as_slice.ensures.value at c.execute.ensures)
