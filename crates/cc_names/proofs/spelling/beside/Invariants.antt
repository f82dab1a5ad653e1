use Rattle.std.proofs.Common.{◌≡◌, drop, map}
use Rattle.cc_names.specs.Spelling.{first_spelling}
use Rattle.cc_names.proofs.spelling.beside.Given as goal

abbrev pub invariant-loop-row : goal.invariant-loop-row
invariant-loop-row l =
    first_spelling (map (λ row. (row.0.now, row.1.now)) (drop l.row-index l.table)) l.name ≡ first_spelling (map (λ row. (row.0.now, row.1.now)) l.table) l.name
