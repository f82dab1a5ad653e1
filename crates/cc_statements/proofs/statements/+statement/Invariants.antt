use Rattle.std.proofs.Common.{◌≡◌, [], map, drop}
use Rattle.cc_operations.specs.Choosing.{Pick, Chooses}
use Rattle.cc_statements.specs.Steps.{in_row, statement_part, steps_bare, sections, branch_of, sections_bare}
use Rattle.cc_statements.proofs.statements.+statement.Given as goal

abbrev pub invariant-row-loop-one : goal.invariant-row-loop-one
invariant-row-loop-one g l =
    (choice : Pick) → Chooses l.source.classes choice
    → in_row l.stand (map (statement_part choice (g.F.Finder.finds l.finder) l.source) (drop l.one-index l.statements)) (steps_bare l.done) l.frame
    ≡ in_row l.stand (map (statement_part choice (g.F.Finder.finds l.finder) l.source) l.statements) [] l.initial.frame

abbrev pub invariant-sections-loop-at : goal.invariant-sections-loop-at
invariant-sections-loop-at g l =
    (choice : Pick) → Chooses l.source.classes choice
    → sections choice (g.F.Finder.finds l.finder) l.source l.operand l.seen (map (branch_of choice (g.F.Finder.finds l.finder) l.source) (drop l.at l.items)) (sections_bare l.done) l.stand l.frame
    ≡ sections choice (g.F.Finder.finds l.finder) l.source l.operand [] (map (branch_of choice (g.F.Finder.finds l.finder) l.source) l.items) [] l.stand l.initial.frame
