use Rattle.std.proofs.Common.{◌≡◌, drop, map}
use Rattle.cc_names.specs.Statements.{last_of, label_span, piece}
use Rattle.cc_names.proofs.statements.last_statement.Given as goal

abbrev pub invariant-loop-statement : goal.invariant-loop-statement
invariant-loop-statement l = last_of l.last (map (λ piece. piece.span) (map piece (drop l.statement-index l.statements))) ≡ last_of l.initial.last (map (λ piece. piece.span) (map piece l.statements))
