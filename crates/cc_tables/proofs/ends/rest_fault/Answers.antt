use Rattle.std.proofs.Common.{◌∙◌, sym}
use Rattle.cc_tables.proofs.Endings.{take_zeros, rest_some, rest_more, rest_none}
use Rattle.cc_tables.proofs.ends.rest_fault.Goals as goal

pub returns-in-Some : goal.returns-in-Some
returns-in-Some c =
    rest_some c.args.place c.args.count c.args.rest.now _ (take_zeros c.args.count c.number-zeros.result c.number-zeros.ensures c.requires.few) c.in-Some.fault c.in_stream.result (sym c.first_fault.ensures.fault ∙ c.in-Some.is) c.in_stream.ensures

pub returns-then-count-rest : goal.returns-then-count-rest
returns-then-count-rest c =
    rest_more c.args.place c.args.count c.args.rest.now _ (take_zeros c.args.count c.number-zeros.result c.number-zeros.ensures c.requires.few) (sym c.first_fault.ensures.fault ∙ c.in_default.is) c.if-count-rest.true

pub returns : goal.returns
returns c = rest_none c.args.place c.args.count c.args.rest.now _ (take_zeros c.args.count c.number-zeros.result c.number-zeros.ensures c.requires.few) (sym c.first_fault.ensures.fault ∙ c.in_default.is) c.if-count-rest.false
