use Rattle.std.proofs.Common.{◌<◌, length, arith}
use Rattle.cc_core.proofs.Found.{marked-push, same_read}
use Rattle.cc_core.proofs.search.Search.add.Goals as goal

pub returns-in_ok-push-clause-marked : goal.returns-in_ok-push-clause-marked
returns-in_ok-push-clause-marked c =
    let marks = c.args.self.now.marks in
    let h : c.args.class.0 < length marks.items = omega (arith, marks.ok, c.requires.within) in
    let unmarked = same_read marks.items c.args.class.0 c.index.result.now c.index.ensures c.if-not-index.true in
    rw c.in_ok-push.ensures.items (marked-push _ _ _ c.requires.marked h unmarked)
