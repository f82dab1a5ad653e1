use Rattle.std.proofs.Common.{◌≡◌, ◌∙◌, sym, ap, refl, drop, ◌+◌, true, false, ◌||◌}
use Rattle.std.proofs.lemmas.List.{at_drop_more, at_drop_all}
use Rattle.cc_table.specs.Choice as spec
use Rattle.cc_table.proofs.pattern.accepts_one.Goals as goal

pub loop-pattern-init : goal.loop-pattern-init
loop-pattern-init c = refl

pub returns-then-accepts : goal.returns-then-accepts
returns-then-accepts c =
    sym (c.loop-pattern.invariant ∙ at_drop_more (λ rest. spec.accepts_one rest c.args.input) _ _ _ c.loop-pattern-test.true
    ∙ ap (λ found. found || spec.accepts_one (drop (c.loop-pattern.pattern-index + 1) c.args.patterns.now) c.args.input) (sym c.accepts.ensures ∙ c.if-accepts.true))

pub loop-pattern-preserved : goal.loop-pattern-preserved
loop-pattern-preserved c =
    c.loop-pattern.invariant ∙ at_drop_more (λ rest. spec.accepts_one rest c.args.input) _ _ _ c.loop-pattern-test.true
    ∙ ap (λ found. found || spec.accepts_one (drop (c.loop-pattern.pattern-index + 1) c.args.patterns.now) c.args.input) (sym c.accepts.ensures ∙ c.if-accepts.false)

pub returns : goal.returns
returns c = sym (c.loop-pattern.invariant ∙ at_drop_all (λ rest. spec.accepts_one rest c.args.input) _ _ c.loop-pattern-test.false)
