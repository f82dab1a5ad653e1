use Rattle.std.proofs.Common.{◌≡◌, drop, map}
use Rattle.cc_names.specs.Parts.{added, in_order}
use Rattle.cc_names.specs.Statements.{statement_declares, catch_declares, section_declares}
use Rattle.cc_names.proofs.statements.+statements.Given as goal

abbrev pub invariant-collect_statements-loop-statement : goal.invariant-collect_statements-loop-statement
invariant-collect_statements-loop-statement l =
    added (in_order (map statement_declares (drop l.statement-index l.statements))) l.around l.declared ≡ added (in_order (map statement_declares l.statements)) l.around l.initial.declared

abbrev pub invariant-collect_catches-loop-catch : goal.invariant-collect_catches-loop-catch
invariant-collect_catches-loop-catch l =
    added (in_order (map catch_declares (drop l.catch-index l.catches))) l.around l.declared ≡ added (in_order (map catch_declares l.catches)) l.around l.initial.declared

abbrev pub invariant-collect_sections-loop-section : goal.invariant-collect_sections-loop-section
invariant-collect_sections-loop-section l =
    added (in_order (map section_declares (drop l.section-index l.sections))) l.around l.declared ≡ added (in_order (map section_declares l.sections)) l.around l.initial.declared
