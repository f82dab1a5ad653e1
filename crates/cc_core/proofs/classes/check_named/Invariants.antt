use Rattle.std.proofs.Common.{◌≡◌, true, take, length}
use Rattle.std.specs.List.{list_all}
use Rattle.cc_core.specs.Classes.{class_within}
use Rattle.cc_core.proofs.classes.check_named.Given as goal

abbrev pub invariant-loop-at : goal.invariant-loop-at
invariant-loop-at l = list_all (class_within (length l.classes)) (take l.at l.classes) ≡ true
