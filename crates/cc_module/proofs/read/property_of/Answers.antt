use Rattle.std.proofs.Common.{◌≡◌, ◌+◌, ◌∷◌, ◌∙◌, ℕ, Err, ap, sym, subst, arith}
use Rattle.cc_module.specs.declared.fault.BlobFault.TheVariants.{Bad}
use Rattle.cc_module.specs.Signatures.{IsBadWhole, IsSignature, this_mark, moved}
use Rattle.cc_module.proofs.Blobs.{moved_bad}
use Rattle.cc_module.proofs.Heads.{bad_property}
use Rattle.cc_module.proofs.read.property_of.Goals as goal

pub after-requires : goal.after-requires
after-requires c n e =
    let bad = c.in-Err.ensures.err n (ap Err e) in
    let within = bad.within in
    omega (arith, within, c.requires.long)

pub returns-in-Err-clause-err : goal.returns-in-Err-clause-err
returns-in-Err-clause-err c n e =
    let same : moved 1 c.in-Err.fault ≡ Bad n = sym c.after.ensures ∙ (let f = e in cc) in
    let found = moved_bad 1 n c.in-Err.fault same in
    subst (λ (x : ℕ). IsBadWhole IsSignature ((this_mark c.args.has_this + 0x08) ∷ c.args.tail.now) x) found.2 (bad_property c.args.has_this c.args.tail.now found.0 c.requires.some (c.in-Err.ensures.err found.0 (ap Err found.1)))
