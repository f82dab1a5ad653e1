use Rattle.std.proofs.Common.{rules, refl, map}
use Rattle.cc_template.specs.Nodes.{joined, statement_nodes, section_nodes, catches_nodes, catch_parts}
use Rattle.cc_template.proofs.Laws.{run_more, run_refused}
use Rattle.cc_template.proofs.room.Room.+statement.Goals as goal

pub statements-returns-in_err-room : goal.statements-returns-in_err-room
statements-returns-in_err-room t c =
    let refused = run_refused (λ xs. joined (map statement_nodes xs)) statement_nodes (λ x xs. refl) c.args.statements.now c.statements.statement-index c.statement-item.result c.statements.room _ c.statements-test.true c.statement-item.is _ c.statement.ensures c.in_err-room.was _ c.statements.invariant in
    search (rules, refused)

pub statements-statements-preserved : goal.statements-statements-preserved
statements-statements-preserved t c =
    run_more (λ xs. joined (map statement_nodes xs)) statement_nodes (λ x xs. refl) c.args.statements.now c.statements.statement-index c.statement-item.result c.statements.room _ c.statements-test.true c.statement-item.is _ c.statement.ensures c.in_ok-room.was _ c.statements.invariant

pub sections-returns-in_err-room : goal.sections-returns-in_err-room
sections-returns-in_err-room t c =
    let refused = run_refused (λ xs. joined (map section_nodes xs)) section_nodes (λ x xs. refl) c.as_slice-items.result.now c.sections.section-index c.section-item.result c.sections.room _ c.sections-test.true c.section-item.is _ c.section.ensures c.in_err-room.was _ c.sections.invariant in
    search (rules, refused)

pub sections-sections-preserved : goal.sections-sections-preserved
sections-sections-preserved t c =
    run_more (λ xs. joined (map section_nodes xs)) section_nodes (λ x xs. refl) c.as_slice-items.result.now c.sections.section-index c.section-item.result c.sections.room _ c.sections-test.true c.section-item.is _ c.section.ensures c.in_ok-room.was _ c.sections.invariant

pub catches-returns-in_err-room : goal.catches-returns-in_err-room
catches-returns-in_err-room t c =
    let refused = run_refused (λ xs. catches_nodes (map catch_parts xs)) (λ one. (catch_parts one).nodes) (λ x xs. refl) c.args.catches.now c.catches.one-index c.one-item.result c.catches.room _ c.catches-test.true c.one-item.is _ c.catch_parts.ensures c.in_err-room.was _ c.catches.invariant in
    search (rules, refused)

pub catches-catches-preserved : goal.catches-catches-preserved
catches-catches-preserved t c =
    run_more (λ xs. catches_nodes (map catch_parts xs)) (λ one. (catch_parts one).nodes) (λ x xs. refl) c.args.catches.now c.catches.one-index c.one-item.result c.catches.room _ c.catches-test.true c.one-item.is _ c.catch_parts.ensures c.in_ok-room.was _ c.catches.invariant
