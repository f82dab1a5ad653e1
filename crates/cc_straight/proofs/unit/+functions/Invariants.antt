use Rattle.std.proofs.Common.{◌≡◌, drop, map}
use Rattle.cc_straight.specs.Form.{is_any, has_function}
use Rattle.cc_straight.proofs.unit.+functions.Given as goal

abbrev pub invariant-have_function-loop-outer : goal.invariant-have_function-loop-outer
invariant-have_function-loop-outer l = is_any (map has_function (drop l.outer-index l.outers)) ≡ is_any (map has_function l.outers)
