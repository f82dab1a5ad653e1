use Rattle.std.proofs.Common.{◌≡◌, ◌++◌, drop, map}
use Rattle.cc_verify.specs.Types.{class_or_object}
use Rattle.cc_verify.proofs.naming.classes_of.Given as goal

abbrev pub invariant-loop-row : goal.invariant-loop-row
invariant-loop-row l = l.classes ++ map class_or_object (drop l.row-index l.rows) ≡ map class_or_object l.rows
