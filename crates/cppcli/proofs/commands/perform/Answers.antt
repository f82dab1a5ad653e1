use Rattle.std.specs.Prelude.{Some, Err}
use Rattle.std.proofs.Common.{subst}
use Rattle.cc_words.specs.Shown.{shown}
use Rattle.cppcli.specs.Answers.{FilesRun, KeepsFiles}
use Rattle.cppcli.specs.Stops.{ended_status}
use Rattle.cppcli.proofs.commands.perform.Goals as goal

pub returns-in-Err-With-clause-files : goal.returns-in-Err-With-clause-files
returns-in-Err-With-clause-files g c =
    let run : FilesRun = record { before = g.F.Files.state c.args.files.now; after = g.F.Files.state c.end_of.new.files; quiet = g.F.Files.quiet c.args.files.now } in
    subst (λ s. KeepsFiles (Some (shown c.args.request)) run (ended_status (Err s))) c.in-Err-With.field-0-is c.in-Err-With.ensures.files
