use Rattle.std.proofs.Common.{sym, ◌∙◌}
use Rattle.std.proofs.lemmas.List.{drop_more, take_more}
use Rattle.cc_verify.proofs.Bodies.{edge_broken, nest_broken, nested_on, all_nested}
use Rattle.cc_verify.proofs.body.clause_verdict.Goals as goal

pub loop-at-init : goal.loop-at-init
loop-at-init c = λ verdict more. more

pub returns-then-not-has_edges : goal.returns-then-not-has_edges
returns-then-not-has_edges c =
    edge_broken c.args.method.now c.args.clauses.now c.loop-at.at _ (drop_more c.args.clauses.now c.loop-at.at _ c.loop-at-test.true) (sym c.has_edges.ensures ∙ c.if-not-has_edges.true) c.loop-at.invariant

pub returns-then-not-is_nested : goal.returns-then-not-is_nested
returns-then-not-is_nested c =
    nest_broken c.args.method.now c.args.clauses.now c.loop-at.at _ (drop_more c.args.clauses.now c.loop-at.at _ c.loop-at-test.true) (sym c.has_edges.ensures ∙ c.if-not-has_edges.false) (sym c.is_nested.ensures ∙ c.if-not-is_nested.true) c.loop-at.invariant

pub loop-at-preserved : goal.loop-at-preserved
loop-at-preserved c =
    nested_on c.args.method.now c.args.clauses.now c.loop-at.at _ (drop_more c.args.clauses.now c.loop-at.at _ c.loop-at-test.true) (take_more c.args.clauses.now c.loop-at.at _ c.loop-at-test.true)
    (sym c.has_edges.ensures ∙ c.if-not-has_edges.false) (sym c.is_nested.ensures ∙ c.if-not-is_nested.false) c.loop-at.invariant

pub returns : goal.returns
returns c = all_nested c.args.method.now c.args.clauses.now c.loop-at.at c.loop-at-test.false c.loop-at.invariant
