use Rattle.std.proofs.Common.{◌∙◌, ap, map, string_bytes}
use Rattle.std.specs.Prelude.{option_map}
use Rattle.clap.specs.Words.{is_simple, is_simple_and_free}
use Rattle.cc_words.specs.Options.{with_option}
use Rattle.cc_words.specs.Shown.{shown}
use Rattle.cc_words.specs.Words.{file_given, bound_given}
use Rattle.cc_words.proofs.Apps.{app_is_simple, app_is_free}
use Rattle.cc_words.proofs.Lines.{read_line, no_line}
use Rattle.cc_words.proofs.read.read_between.Goals as goal

pub read_options-requires-clause-simple : goal.read_options-requires-clause-simple
read_options-requires-clause-simple c = ap (λ option. is_simple (with_option option)) c.option_named.ensures ∙ app_is_simple c.args.command

pub read_options-requires-clause-free : goal.read_options-requires-clause-free
read_options-requires-clause-free c = ap (λ option. is_simple_and_free (with_option option)) c.option_named.ensures ∙ app_is_free c.args.command

pub returns-in-Some : goal.returns-in-Some
returns-in-Some c =
    let given = rw (c.in-Some.is, c.option_named.ensures) at c.in_ok-given.ensures in
    read_line c.args.command (map (λ word. string_bytes word) c.args.words.now) (map (λ word. string_bytes word) c.args.arguments.now)
    (option_map shown c.request.result) (option_map (λ file. file.now) c.file_given.result) c.bound_given.result
    given.0 (c.file_given.ensures ∙ ap file_given given.1) (c.bound_given.ensures ∙ ap (bound_given c.args.command) given.2) c.request.ensures

pub returns-in-None : goal.returns-in-None
returns-in-None c =
    let given = rw (c.in-None.is, c.option_named.ensures) at c.in_ok-given.ensures in
    no_line c.args.command (map (λ word. string_bytes word) c.args.words.now) (map (λ word. string_bytes word) c.args.arguments.now) given
