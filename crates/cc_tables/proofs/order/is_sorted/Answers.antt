use Rattle.std.proofs.Common.{arith}
use Rattle.cc_tables.proofs.Ordered.{order_all, order_broken}
use Rattle.cc_tables.proofs.order.is_sorted.Goals as goal

pub returns-then-key-clause-no : goal.returns-then-key-clause-no
returns-then-key-clause-no g c =
    λ e. order_broken g.R.Keyed.key_of c.args.rows.now c.loop-i.i c.index-rows-i.result c.index-rows-i-in-loop-i.result (omega (arith, c.loop-i.auto.i)) (omega (arith, c.loop-i-test.true)) c.index-rows-i.is c.index-rows-i-in-loop-i.is
    (omega (arith, c.if-key.true, c.key.ensures, c.key-in-loop-i.ensures))

pub returns-clause-yes : goal.returns-clause-yes
returns-clause-yes g c = λ e. order_all g.R.Keyed.key_of c.args.rows.now c.loop-i.i (omega (arith, c.loop-i-test.false)) c.loop-i.invariant
