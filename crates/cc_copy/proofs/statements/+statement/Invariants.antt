use Rattle.std.proofs.Common.{◌≡◌, take}
use Rattle.cc_copy.proofs.statements.+statement.Given as goal

abbrev pub invariant-copied_statements-loop-statement : goal.invariant-copied_statements-loop-statement
invariant-copied_statements-loop-statement l = l.copies ≡ take l.statement-index l.statements

abbrev pub invariant-copied_sections-loop-section : goal.invariant-copied_sections-loop-section
invariant-copied_sections-loop-section l = l.copies ≡ take l.section-index l.sections

abbrev pub invariant-copied_catches-loop-one : goal.invariant-copied_catches-loop-one
invariant-copied_catches-loop-one l = l.copies ≡ take l.one-index l.catches
