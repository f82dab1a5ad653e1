use Rattle.std.proofs.Common.{◌≡◌, ◌+◌, ◌-◌, length, sym, ap, ◌∙◌, arith}
use Rattle.cc_execution.specs.Handlers.{reaches}
use Rattle.cc_handlers.proofs.Classing.{by_look, reaches_more}
use Rattle.cc_handlers.proofs.classes.derives.Goals as goal

pub returns-in-Named : goal.returns-in-Named
returns-in-Named c =
    let cs = c.args.classes.now in let t = c.args.token in let n = length cs in let i = c.loop.counter in
    sym (c.loop.invariant ∙ reaches_more cs c.loop.at t n i c.look_at.result c.loop-test.true c.look_at.ensures ∙ ap (λ l. by_look l (λ base. reaches cs (n - (i + 1)) base t)) c.in-Named.is)

pub returns-in-Neither : goal.returns-in-Neither
returns-in-Neither c =
    let cs = c.args.classes.now in let t = c.args.token in let n = length cs in let i = c.loop.counter in
    sym (c.loop.invariant ∙ reaches_more cs c.loop.at t n i c.look_at.result c.loop-test.true c.look_at.ensures ∙ ap (λ l. by_look l (λ base. reaches cs (n - (i + 1)) base t)) c.in-Neither.is)

pub loop-preserved : goal.loop-preserved
loop-preserved c =
    let cs = c.args.classes.now in let t = c.args.token in let n = length cs in let i = c.loop.counter in
    c.loop.invariant ∙ reaches_more cs c.loop.at t n i c.look_at.result c.loop-test.true c.look_at.ensures ∙ ap (λ l. by_look l (λ base. reaches cs (n - (i + 1)) base t)) c.in-Base.is

pub returns : goal.returns
returns c =
    let cs = c.args.classes.now in let n = length cs in
    let none : n - c.loop.counter ≡ 0 = omega arith in
    sym (c.loop.invariant ∙ ap (λ k. reaches cs k c.loop.at c.args.token) none)
