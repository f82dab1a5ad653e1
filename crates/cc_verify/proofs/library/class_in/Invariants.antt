use Rattle.std.proofs.Common.{◌≡◌, drop, map}
use Rattle.cc_verify.specs.Library.{class_in}
use Rattle.cc_verify.proofs.library.class_in.Given as goal

abbrev pub invariant-loop-row : goal.invariant-loop-row
invariant-loop-row l = class_in (map (λ row. (row.0.now, row.1)) (drop l.row-index l.classes)) l.name ≡ class_in (map (λ row. (row.0.now, row.1)) l.classes) l.name
