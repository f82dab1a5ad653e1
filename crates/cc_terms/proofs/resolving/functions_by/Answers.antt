use Rattle.std.proofs.Common.{◌<◌, length, arith}
use Rattle.cc_terms.specs.Resolving.{comes_by}
use Rattle.cc_terms.proofs.Places.{those_more}
use Rattle.cc_terms.proofs.resolving.functions_by.Goals as goal

pub loop-place-preserved : goal.loop-place-preserved
loop-place-preserved c =
    let functions = c.as_slice-functions.result.now in
    let within : c.loop-place.place < length c.as_slice-functions.result.now = omega arith in
    those_more (comes_by c.as_slice-directed.result.now c.args.at c.args.name.now) functions c.loop-place.place c.index-functions-place.result c.comes_by-passes.result c.loop-place.places c.add_if.new.places within
    c.index-functions-place.is c.comes_by-passes.ensures c.loop-place.invariant c.in_ok-add_if.ensures
