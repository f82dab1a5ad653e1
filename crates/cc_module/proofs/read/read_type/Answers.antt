use Rattle.std.proofs.Common.{◌≡◌, ◌+◌, ◌-◌, length, ℕ, refl, subst, arith}
use Rattle.cc_layout.specs.Codes.{IsBad}
use Rattle.cc_module.specs.Signatures.{IsOneType}
use Rattle.cc_module.proofs.Types.{more_wanted, more_fit, more_text, pending_below, type_bad}
use Rattle.cc_module.proofs.read.read_type.Goals as goal

pub overflow_add-pending : goal.overflow_add-pending
overflow_add-pending c =
    let inv = c.loop-pending.invariant in
    let below = pending_below c.in-Ok.element c.args.bytes.now _ _ c.loop-pending.pending c.in-Ok.ensures.fits c.in-Ok.ensures.ok inv.bound c.loop-pending-test.true in
    record { fits = omega (arith, below, c.arity.ensures, c.requires) }

pub loop-pending-preserved : goal.loop-pending-preserved
loop-pending-preserved c =
    let inv = c.loop-pending.invariant in
    record {
      wants = rw c.arity.ensures (more_wanted 1 c.loop-pending.pending c.loop-pending.elements _ c.in-Ok.element c.in_ok-push-in-Ok.ensures.ok c.loop-pending-test.true inv.wants);
      fits = more_fit 1 c.loop-pending.pending c.loop-pending.elements _ c.in-Ok.element c.in_ok-push-in-Ok.ensures.ok inv.fits c.in-Ok.ensures.fits;
      text = more_text 1 c.loop-pending.pending c.loop-pending.elements _ c.in-Ok.element c.in_ok-push-in-Ok.ensures.ok _ _ _ inv.text c.in-Ok.ensures.ok;
      bound = rw c.arity.ensures (pending_below c.in-Ok.element c.args.bytes.now _ _ c.loop-pending.pending c.in-Ok.ensures.fits c.in-Ok.ensures.ok inv.bound c.loop-pending-test.true);
    }

pub returns-in-Err-clause-err : goal.returns-in-Err-clause-err
returns-in-Err-clause-err c n e =
    let inv = c.loop-pending.invariant in
    let same : length c.args.bytes.now - length c.loop-pending.rest.now + c.in-Err.n ≡ n = cc in
    subst (λ (x : ℕ). IsBad IsOneType c.args.bytes.now x) same (type_bad c.loop-pending.elements _ _ c.loop-pending.pending c.in-Err.n _ c.loop-pending-test.true inv.wants inv.fits inv.text refl c.in-Err.ensures.err)
