use Rattle.std.proofs.Common.{◌≡◌, drop, false}
use Rattle.std.specs.List.{flat_map}
use Rattle.cc_names.specs.Checks.{run}
use Rattle.cc_names.specs.Refusals as spec
use Rattle.cc_names.specs.Told.{told, told_one, told_all}
use Rattle.cc_names.proofs.main_function.main_functions.Given as goal

abbrev pub invariant-loop-one : goal.invariant-loop-one
invariant-loop-one l = run (spec.main_checks l.found (flat_map spec.main_of (told_all (drop l.one-index l.all)))) l.first ≡ run (spec.main_checks false (flat_map spec.main_of (told_all l.all))) l.initial.first
