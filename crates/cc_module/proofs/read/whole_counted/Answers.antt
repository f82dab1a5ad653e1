use Rattle.std.proofs.Common.{◌≡◌, ◌+◌, ◌-◌, ◌∙◌, length, length-append, ℕ, Err, ap, sym, refl, subst, arith}
use Rattle.cc_layout.specs.Compressed.{compressed}
use Rattle.cc_module.specs.declared.fault.BlobFault.TheVariants.{Bad}
use Rattle.cc_module.specs.Signatures.{IsBadWhole, IsCounted, moved}
use Rattle.cc_module.proofs.Blobs.{moved_bad, counted_count, counted_types, counted_rest}
use Rattle.cc_module.proofs.read.whole_counted.Goals as goal

pub returns-in-Err-clause-err : goal.returns-in-Err-clause-err
returns-in-Err-clause-err c n e =
    let same : c.in-Err.n ≡ n = cc in
    subst (λ (x : ℕ). IsBadWhole (IsCounted c.args.extra) c.args.bytes.now x) same (counted_count c.args.extra _ _ c.in-Err.ensures.err)

pub returns-then-width-rest-clause-err : goal.returns-then-width-rest-clause-err
returns-then-width-rest-clause-err c n e =
    let same : length c.args.bytes.now - length c.in-Ok.split.1.now + c.in-Ok-read_types.width ≡ n = cc in
    subst (λ (x : ℕ). IsBadWhole (IsCounted c.args.extra) c.args.bytes.now x) same
    (counted_rest c.args.extra c.in-Ok.split.0 _ c.in-Ok.split.1.now c.in-Ok.ensures.ok.0 c.in-Ok.ensures.ok.1 _ refl c.in-Ok-read_types.types _ c.in-Ok-read_types.ensures.types.0 c.in-Ok-read_types.ensures.types.1 c.in-Ok-read_types.ensures.ok c.if-width-rest.true)

pub after-requires : goal.after-requires
after-requires c n e =
    let bad = c.in-Err-read_types.ensures.err n (ap Err e) in
    let within = bad.within in
    omega (arith, within, c.requires.long, ap length c.in-Ok.ensures.ok.1, length-append (compressed c.in-Ok.split.0) c.in-Ok.split.1.now)

pub returns-in-Err-read_types-clause-err : goal.returns-in-Err-read_types-clause-err
returns-in-Err-read_types-clause-err c n e =
    let same : moved (length c.args.bytes.now - length c.in-Ok.split.1.now) c.in-Err-read_types.fault ≡ Bad n = sym c.after.ensures ∙ (let f = e in cc) in
    let found = moved_bad _ n c.in-Err-read_types.fault same in
    subst (λ (x : ℕ). IsBadWhole (IsCounted c.args.extra) c.args.bytes.now x) found.2 (counted_types c.args.extra c.in-Ok.split.0 _ c.in-Ok.split.1.now c.in-Ok.ensures.ok.0 c.in-Ok.ensures.ok.1 _ refl found.0 (c.in-Err-read_types.ensures.err found.0 (ap Err found.1)))
