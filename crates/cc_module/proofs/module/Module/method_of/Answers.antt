use Rattle.std.proofs.Common.{◌-◌, ◌<◌, length, arith}
use Rattle.cc_module.proofs.Methods.{body_read, unnamed}
use Rattle.cc_module.proofs.module.Module.method_of.Goals as goal

pub returns-in_err-row-clause-none : goal.returns-in_err-row-clause-none
returns-in_err-row-clause-none c = unnamed c.from_residual.result c.args.self.now c.args.token c.in_err-row.ensures.none

pub returns-clause-body : goal.returns-clause-body
returns-clause-body c =
    let lt : c.in_ok-row.row - 1 < length c.as_slice-methods.result.now = omega (arith, c.in_ok-row.ensures.row) in
    body_read c.args.self.now c.in_ok-row.row _ _ c.index-methods-at.result c.as_slice-methods.result.now _ c.as_slice-methods.ensures lt c.index-methods-at.is c.count_bodies-before.ensures.count c.len.ensures c.body_place-body.ensures
