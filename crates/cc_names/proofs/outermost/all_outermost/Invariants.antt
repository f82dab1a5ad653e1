use Rattle.std.proofs.Common.{◌≡◌, drop, map}
use Rattle.cc_names.specs.Checks.{run, joined}
use Rattle.cc_names.specs.Spaces as spaces
use Rattle.cc_names.specs.Refusals as spec
use Rattle.cc_names.specs.Told.{told, told_one, told_all}
use Rattle.cc_names.proofs.outermost.all_outermost.Given as goal

abbrev pub invariant-loop-one : goal.invariant-loop-one
invariant-loop-one l = run (joined (map (spec.standing_checks (spaces.space l.space)) (told_all (drop l.one-index l.all)))) l.first ≡ run (joined (map (spec.standing_checks (spaces.space l.space)) (told_all l.all))) l.initial.first
