use Rattle.std.proofs.Common.{◌≡◌, rules, refl, map, string_bytes}
use Rattle.std.specs.Prelude.{Some}
use Rattle.cc_words.specs.Shown.{shown}
use Rattle.cc_words.specs.Words.{command_line}
use Rattle.cppcli.specs.Answers.{FilesRun}
use Rattle.cppcli.specs.declared.status.Status.TheVariants.{Memory}
use Rattle.cppcli.proofs.AnswerLemmas.{answer_of, answer_memory, first_of_line, keeps_same, kept_by_line}
use Rattle.cppcli.proofs.top.answer.Goals as goal

pub returns-in-Ok-clause-answer : goal.returns-in-Ok-clause-answer
returns-in-Ok-clause-answer g c =
    let ordered = rw c.in-Ok-Some.field-0-is at c.in-Ok-Some.ensures.exact in
    answer_of _ _ _ _ (shown c.in-Ok-Some.request) c.in-Ok.outcome ordered c.in-Ok.ensures.outcome c.in-Ok.ensures.files (search rules)

pub returns-in-Err-clause-answer : goal.returns-in-Err-clause-answer
returns-in-Err-clause-answer g c = answer_memory _ _ _ _ (g.O.Sink.quiet c.args.output.now) (g.E.Sink.quiet c.args.notes.now) c.in-Err.ensures.memory (keeps_same _ _ _ (λ name. refl))

pub returns-in-Err-perform-clause-answer : goal.returns-in-Err-perform-clause-answer
returns-in-Err-perform-clause-answer g c =
    let words = map (λ word. string_bytes word) c.args.words.now in
    let run : FilesRun = record { before = g.F.Files.state c.args.files.now; after = g.F.Files.state c.perform.new.files; quiet = g.F.Files.quiet c.args.files.now } in
    let ordered : Some (shown c.in-Ok-Some.request) ≡ command_line words = rw c.in-Ok-Some.field-0-is at c.in-Ok-Some.ensures.exact in
    answer_memory words run (g.O.Sink.state c.args.output.now) (g.E.Sink.state c.args.notes.now) (g.O.Sink.quiet c.args.output.now) (g.E.Sink.quiet c.args.notes.now)
    (first_of_line words (shown c.in-Ok-Some.request) ordered)
    (kept_by_line words run (shown c.in-Ok-Some.request) Memory ordered c.in-Err-perform.ensures.files)
