use Rattle.std.proofs.Common.{rules}
use Rattle.cc_template.proofs.Expanded.{counted_as, refused_as}
use Rattle.cc_template.proofs.expansion.expand.Goals as goal

pub returns : goal.returns
returns c = (c.in_ok-expanded.ensures, (c.in_ok-_count._count, counted_as c.args.unit.now c.count_nodes.result c.in_ok-_count._count c.count_nodes.ensures.exact c.in_ok-_count.was))

pub returns-in_err-_count : goal.returns-in_err-_count
returns-in_err-_count c =
    let refused = refused_as c.args.unit.now c.count_nodes.result _ c.count_nodes.ensures.exact c.in_err-_count.was in
    search (rules, refused)
