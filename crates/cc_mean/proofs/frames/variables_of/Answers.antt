use Rattle.std.proofs.Common.{◌≡◌, ◌∙◌, ◌+◌, ◌++◌, List, drop, subst, sym}
use Rattle.std.specs.Option.{option_map}
use Rattle.cc_core.specs.declared.world.Value.{Value}
use Rattle.cc_core.specs.Frames.{zeros_of}
use Rattle.cc_mean.proofs.Zeros.{zero_turn}
use Rattle.cc_mean.proofs.frames.variables_of.Goals as goal

pub loop-of-preserved : goal.loop-of-preserved
loop-of-preserved c =
    let types = c.if-count-locals.further.now in
    let at = c.loop-of.of-index in
    subst (λ (vs : List Value). option_map (λ zeros. vs ++ zeros) (zeros_of (drop (at + 1) types)) ≡ option_map (λ zeros. c.args.arguments ++ zeros) (zeros_of types))
    (sym c.in_ok-push-in-Some.ensures.ok)
    (zero_turn c.loop-of.variables c.in-Some.zero types at c.of-item.result c.loop-of-test.true c.of-item.is c.in-Some.ensures ∙ c.loop-of.invariant)
