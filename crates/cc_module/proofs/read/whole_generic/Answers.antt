use Rattle.std.proofs.Common.{◌≡◌, ◌-◌, ◌∙◌, length, length-append, ℕ, Err, ap, sym, refl, subst, arith}
use Rattle.cc_layout.specs.Compressed.{compressed}
use Rattle.cc_module.specs.declared.fault.BlobFault.TheVariants.{Bad}
use Rattle.cc_module.specs.Signatures.{IsBadWhole, IsGeneric, moved}
use Rattle.cc_module.proofs.Blobs.{moved_bad, generic_number, generic_counted}
use Rattle.cc_module.proofs.read.whole_generic.Goals as goal

pub returns-in-Err-clause-err : goal.returns-in-Err-clause-err
returns-in-Err-clause-err c n e =
    let same : c.in-Err.n ≡ n = cc in
    subst (λ (x : ℕ). IsBadWhole IsGeneric c.args.bytes.now x) same (generic_number _ _ c.in-Err.ensures.err)

pub after-requires : goal.after-requires
after-requires c n e =
    let bad = c.in-Err-whole_counted.ensures.err n (ap Err e) in
    let within = bad.within in
    omega (arith, within, c.requires, ap length c.in-Ok.ensures.ok.1, length-append (compressed c.in-Ok.split.0) c.in-Ok.split.1.now)

pub returns-in-Err-whole_counted-clause-err : goal.returns-in-Err-whole_counted-clause-err
returns-in-Err-whole_counted-clause-err c n e =
    let same : moved (length c.args.bytes.now - length c.in-Ok.split.1.now) c.in-Err-whole_counted.fault ≡ Bad n = sym c.after.ensures ∙ (let f = e in cc) in
    let found = moved_bad _ n c.in-Err-whole_counted.fault same in
    subst (λ (x : ℕ). IsBadWhole IsGeneric c.args.bytes.now x) found.2 (generic_counted c.in-Ok.split.0 _ c.in-Ok.split.1.now found.0 _ c.in-Ok.ensures.ok.0 c.in-Ok.ensures.ok.1 refl (c.in-Err-whole_counted.ensures.err found.0 (ap Err found.1)))
