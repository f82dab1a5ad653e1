use Rattle.std.proofs.Common.{ap}
use Rattle.cc_tree.specs.declared.type_name.FundamentalType.TheVariants as f
use Rattle.cc_operations.specs.Judgements.{Value, values_of}
use Rattle.cc_operations.specs.Operations.{passed}
use Rattle.cc_operations.proofs.Arguments.{passed_step, passed_all}
use Rattle.cc_operations.proofs.calls.passed.Goals as goal

pub loop-of-preserved : goal.loop-of-preserved
loop-of-preserved c =
    passed_step c.args.types.now c.loop-of.of-index f.Void c.loop-of.made c.push.new.self c.in_ok-given.given.term c.loop-of.rest c.pop.new.self c.in-Some.value (passed c.args.types.now (values_of c.args.values))
    c.loop-of-test.true (ap (λ (v : Value). v.term) c.in_ok-given.ensures) c.in-Some.ensures c.in_ok-push.ensures.ok c.loop-of.invariant

pub returns : goal.returns
returns c = passed_all c.args.types.now c.loop-of.of-index c.loop-of.made c.loop-of.rest (passed c.args.types.now (values_of c.args.values)) c.loop-of-test.false c.loop-of.invariant
