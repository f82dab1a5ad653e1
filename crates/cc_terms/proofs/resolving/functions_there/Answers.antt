use Rattle.std.proofs.Common.{◌<◌, length, arith}
use Rattle.cc_terms.specs.Resolving.{stands_there}
use Rattle.cc_terms.proofs.Places.{those_more}
use Rattle.cc_terms.proofs.resolving.functions_there.Goals as goal

pub loop-at-preserved : goal.loop-at-preserved
loop-at-preserved c =
    let within : c.loop-at.at < length c.args.functions.now = omega arith in
    those_more (stands_there c.args.path.now c.args.name.now) c.args.functions.now c.loop-at.at c.index-functions-at.result c.stands_there-passes.result c.loop-at.places c.add_if.new.places within
    c.index-functions-at.is c.stands_there-passes.ensures c.loop-at.invariant c.in_ok-add_if.ensures
