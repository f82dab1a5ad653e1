use Rattle.std.proofs.Common.{◌≡◌, ℕ, Err, ap, rules, subst}
use Rattle.cc_module.specs.declared.fault.BlobFault.TheVariants.{Bad}
use Rattle.cc_module.specs.Signatures.{IsBadWhole, IsOneType}
use Rattle.cc_module.proofs.Types.{type_code}
use Rattle.cc_module.proofs.Blobs.{whole_bad, type_rest}
use Rattle.cc_module.proofs.read.whole_type.Goals as goal

pub returns-in_err-one-clause-err : goal.returns-in_err-one-clause-err
returns-in_err-one-clause-err c n e =
    let same : c.in_err-one.field-0.0 ≡ Bad n = search rules in
    whole_bad IsOneType type_code c.args.bytes.now n (c.in_err-one.ensures.err n (ap Err same))

pub returns-then-width-bytes-clause-err : goal.returns-then-width-bytes-clause-err
returns-then-width-bytes-clause-err c n e =
    let same : c.in_ok-one.width ≡ n = cc in
    subst (λ (x : ℕ). IsBadWhole IsOneType c.args.bytes.now x) same (type_rest c.args.bytes.now c.in_ok-one.one c.in_ok-one.width c.in_ok-one.ensures.ok.0 c.in_ok-one.ensures.ok.1 c.if-width-bytes.true)
