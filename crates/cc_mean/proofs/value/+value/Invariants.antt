use Rattle.std.proofs.Common.{◌≡◌, drop, []}
use Rattle.cc_core.specs.Lists.{terms_of}
use Rattle.cc_core.specs.Value.{values_of}
use Rattle.cc_mean.proofs.value.+value.Given as goal

abbrev pub invariant-values-loop-item : goal.invariant-values-loop-item
invariant-values-loop-item g l =
    let k = g.C.Caller.calls l.caller l.code.classes.now l.code.bodies.now l.code.turns in
    values_of l.code.classes.now k (terms_of (drop l.item-index l.items)) l.known l.state ≡ values_of l.code.classes.now k (terms_of l.items) [] l.initial.state
