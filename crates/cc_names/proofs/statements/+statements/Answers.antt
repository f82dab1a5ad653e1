use Rattle.std.proofs.Common.{◌≡◌, ◌∙◌, sym, arith}
use Rattle.cc_names.specs.Statements.{statement_declares, catch_declares, section_declares}
use Rattle.cc_names.proofs.Adding.{next_part, no_more_parts}
use Rattle.cc_names.proofs.statements.+statements.Goals as goal

pub collect_statements-loop-statement-preserved : goal.collect_statements-loop-statement-preserved
collect_statements-loop-statement-preserved t c =
    next_part statement_declares c.args.statements.now c.loop-statement.statement-index c.statement-item.result c.args.around c.loop-statement.declared _ (omega arith) c.statement-item.is c.in_ok-collect_statement.ensures
    ∙ c.loop-statement.invariant

pub collect_statements-returns : goal.collect_statements-returns
collect_statements-returns t c =
    sym (no_more_parts statement_declares c.args.statements.now c.loop-statement.statement-index c.args.around c.loop-statement.declared (omega arith)) ∙ c.loop-statement.invariant

pub collect_catches-loop-catch-preserved : goal.collect_catches-loop-catch-preserved
collect_catches-loop-catch-preserved t c =
    next_part catch_declares c.args.catches.now c.loop-catch.catch-index c.catch-item.result c.args.around c.loop-catch.declared _ (omega arith) c.catch-item.is c.in_ok-collect_catch.ensures
    ∙ c.loop-catch.invariant

pub collect_catches-returns : goal.collect_catches-returns
collect_catches-returns t c =
    sym (no_more_parts catch_declares c.args.catches.now c.loop-catch.catch-index c.args.around c.loop-catch.declared (omega arith)) ∙ c.loop-catch.invariant

pub collect_sections-loop-section-preserved : goal.collect_sections-loop-section-preserved
collect_sections-loop-section-preserved t c =
    next_part section_declares c.args.sections.now c.loop-section.section-index c.section-item.result c.args.around c.loop-section.declared _ (omega arith) c.section-item.is c.in_ok-collect_section.ensures
    ∙ c.loop-section.invariant

pub collect_sections-returns : goal.collect_sections-returns
collect_sections-returns t c =
    sym (no_more_parts section_declares c.args.sections.now c.loop-section.section-index c.args.around c.loop-section.declared (omega arith)) ∙ c.loop-section.invariant
