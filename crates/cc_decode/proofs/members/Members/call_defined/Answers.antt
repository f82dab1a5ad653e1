use Rattle.std.proofs.Common.{◌-◌, arith}
use Rattle.cc_decode.proofs.Naming.{may_call, may_not_call}
use Rattle.cc_decode.proofs.members.Members.call_defined.Goals as goal

pub returns-then-callable : goal.returns-then-callable
returns-then-callable c names h =
    may_call names c.args.self.now c.args.row (c.args.row - 1) c.in-Some.callable.now h (omega arith) c.in-Some.ensures.value c.if-callable.true

pub returns-else-callable : goal.returns-else-callable
returns-else-callable c names h =
    may_not_call names c.args.self.now c.args.row (c.args.row - 1) c.in-Some.callable.now h (omega arith) c.in-Some.ensures.value c.if-callable.false
