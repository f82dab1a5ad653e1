use Rattle.std.proofs.Common.{◌≡◌, map, take}
use Rattle.cc_typing.specs.Library.{class_of}
use Rattle.cc_typing.proofs.classes.classes_in.Given as goal

abbrev pub invariant-loop-row : goal.invariant-loop-row
invariant-loop-row l = l.classes ≡ map (λ row. class_of row.0.now row.2 row.3.now) (take l.row-index l.rows)
