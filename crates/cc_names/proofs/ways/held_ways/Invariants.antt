use Rattle.std.proofs.Common.{◌≡◌, drop}
use Rattle.cc_names.specs.Spaces as spaces
use Rattle.cc_names.specs.Classes as classes
use Rattle.cc_names.specs.Refusals as spec
use Rattle.cc_names.specs.Told.{told, told_one, told_all}
use Rattle.cc_names.proofs.ways.held_ways.Given as goal

abbrev pub invariant-loop-one : goal.invariant-loop-one
invariant-loop-one l =
    spaces.after_pairs l.pairs (classes.ways_of (classes.held_seconds (spaces.space l.space)) (spec.classes_of (told_all (drop l.one-index l.all))))
    ≡ classes.ways_of (classes.held_seconds (spaces.space l.space)) (spec.classes_of (told_all l.all))
