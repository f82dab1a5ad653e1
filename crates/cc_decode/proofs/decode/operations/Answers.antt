use Rattle.std.proofs.Common.{◌++◌, sym, ap, rules}
use Rattle.cc_decode.proofs.Decoding.{leads_on, leads_all, has_here}
use Rattle.cc_decode.proofs.decode.operations.Goals as goal

pub loop-at-init : goal.loop-at-init
loop-at-init c = record { within = search rules; leads = λ names scope operations d. (operations, d, ap (λ l. l ++ operations) (sym c.new-found.ensures)) }

pub operation_at-placed-requires-clause-there : goal.operation_at-placed-requires-clause-there
operation_at-placed-requires-clause-there c = has_here c.args.members.now c.args.variables.now c.args.code.now c.loop-at.found c.loop-at.at c.requires.there c.loop-at.invariant.leads

pub loop-at-preserved : goal.loop-at-preserved
loop-at-preserved c = record {
  within = c.operation_at-placed.ensures.within;
  leads = leads_on c.args.members.now c.args.variables.now c.args.code.now c.loop-at.found _ c.loop-at.at c.operation_at-placed.result c.in_ok-push.ensures.ok c.operation_at-placed.ensures.goes_on c.loop-at.invariant.leads;
}

pub returns : goal.returns
returns c names scope operations d = leads_all c.args.members.now c.args.variables.now c.args.code.now c.loop-at.found c.loop-at.at c.loop-at-test.false c.loop-at.invariant.leads names scope operations d
