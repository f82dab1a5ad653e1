use Rattle.std.proofs.Common.{◌≡◌, ◌-◌, ◌∙◌, length, length-append, ℕ, Err, ap, sym, refl, subst, arith}
use Rattle.cc_layout.specs.Codes.{IsBad}
use Rattle.cc_module.specs.declared.fault.BlobFault.TheVariants.{Bad}
use Rattle.cc_module.specs.Signatures.{IsTypes, types_bytes, moved}
use Rattle.cc_module.proofs.Blobs.{moved_bad}
use Rattle.cc_module.proofs.Lists.{on_each, on_count, on_text, ends_bad}
use Rattle.cc_module.proofs.read.read_types.Goals as goal

pub loop-preserved : goal.loop-preserved
loop-preserved c =
    let inv = c.loop.invariant in
    record {
      each = on_each c.loop.types _ c.in-Ok.one c.in_ok-push-in-Ok.ensures.ok inv.each c.in-Ok.ensures.ok.0;
      count = on_count c.loop.types _ c.in-Ok.one _ c.in_ok-push-in-Ok.ensures.ok inv.count;
      text = on_text c.loop.types _ c.in-Ok.one _ _ _ c.in_ok-push-in-Ok.ensures.ok inv.text (rw c.split_at.ensures.back c.in-Ok.ensures.ok.1);
    }

pub after-requires : goal.after-requires
after-requires c n e =
    let bad = c.in-Err.ensures.err n (ap Err e) in
    let within = bad.within in
    omega (arith, within, ap length c.loop.invariant.text, length-append (types_bytes c.loop.types) c.loop.rest.now, c.requires)

pub returns-in-Err-clause-err : goal.returns-in-Err-clause-err
returns-in-Err-clause-err c n e =
    let inv = c.loop.invariant in
    let same : moved (length c.args.bytes.now - length c.loop.rest.now) c.in-Err.fault ≡ Bad n = sym c.after.ensures ∙ (let f = e in cc) in
    let found = moved_bad _ n c.in-Err.fault same in
    subst (λ (x : ℕ). IsBad (IsTypes c.args.count) c.args.bytes.now x) found.2 (ends_bad c.loop.types _ _ c.args.count _ found.0 _ c.loop-test.true inv.count inv.each inv.text refl (c.in-Err.ensures.err found.0 (ap Err found.1)))
