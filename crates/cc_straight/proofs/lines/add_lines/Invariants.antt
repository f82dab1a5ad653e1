use Rattle.std.proofs.Common.{drop}
use Rattle.cc_straight.specs.Form.{line_terms}
use Rattle.cc_straight.proofs.LinesAdded.{Leads}
use Rattle.cc_straight.proofs.lines.add_lines.Given as goal

abbrev pub invariant-loop-statement : goal.invariant-loop-statement
invariant-loop-statement l = Leads l.initial.into.items l.into.items (line_terms l.statements) (line_terms (drop l.statement-index l.statements))
