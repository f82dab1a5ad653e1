use Rattle.std.proofs.Common.{◌∙◌, ap, map, string_bytes, IfOk, subst}
use Rattle.std.specs.Prelude.{option_map}
use Rattle.clap.specs.Words.{App, is_simple, is_simple_and_free}
use Rattle.cc_words.specs.Given.{Gives}
use Rattle.cc_words.proofs.options.read_options.Goals as goal

pub read_by-requires-clause-simple : goal.read_by-requires-clause-simple
read_by-requires-clause-simple c = ap is_simple c.in_ok-command.ensures ∙ c.requires.simple

pub read_by-requires-clause-free : goal.read_by-requires-clause-free
read_by-requires-clause-free c = ap is_simple_and_free c.in_ok-command.ensures ∙ c.requires.free

pub returns : goal.returns
returns c = subst (λ (app : App). IfOk c.read_by.result (λ given. Gives app (option_map (λ name. name.now) c.args.option) (map (λ word. string_bytes word) c.args.words.now) given)) c.in_ok-command.ensures c.read_by.ensures
