use Rattle.std.proofs.Common.{◌≡◌, drop, map}
use Rattle.cc_forms.specs.Forms.{first_of, section_form, statement_form}
use Rattle.cc_forms.proofs.statements.+statement.Given as goal

abbrev pub invariant-statements-statements : goal.invariant-statements-statements
invariant-statements-statements l = first_of (map statement_form (drop l.statement-index l.statements)) ≡ first_of (map statement_form l.initial.statements)

abbrev pub invariant-sections-sections : goal.invariant-sections-sections
invariant-sections-sections l = first_of (map section_form (drop l.section-index l.items)) ≡ first_of (map section_form l.initial.items)
