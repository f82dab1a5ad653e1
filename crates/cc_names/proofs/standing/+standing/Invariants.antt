use Rattle.std.proofs.Common.{◌≡◌, ◌++◌, drop, map}
use Rattle.cc_names.specs.Outermost as spec
use Rattle.cc_names.specs.Told.{told_all}
use Rattle.cc_names.proofs.standing.+standing.Given as goal

abbrev pub invariant-add_outers-loop-outer : goal.invariant-add_outers-loop-outer
invariant-add_outers-loop-outer l = told_all l.all.items ++ spec.all_standing (map spec.standing_of (drop l.outer-index l.outers)) l.path ≡ told_all l.initial.all.items ++ spec.all_standing (map spec.standing_of l.outers) l.path
