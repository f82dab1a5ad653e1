use Rattle.std.proofs.Common.{◌≡◌, ◌∙◌, sym}
use Rattle.cc_grammar.proofs.Scanned.{scanned}
use Rattle.cc_grammar.proofs.parser.parse.Goals as goal

pub returns-in-Some-clause-refused : goal.returns-in-Some-clause-refused
returns-in-Some-clause-refused c = scanned c.args.tokens.now c.in-Some.fault (sym c.scan.ensures ∙ c.in-Some.is)
