use Rattle.std.proofs.Common.{◌≡◌, ℕ, List, sym, subst}
use Rattle.cc_module.specs.Signatures.{IsBadWhole, IsSignature}
use Rattle.cc_module.proofs.Elements.{at_front}
use Rattle.cc_module.proofs.Heads.{bad_nothing, bad_void}
use Rattle.cc_module.proofs.read.signature_of.Goals as goal

pub returns-in_default-clause-err : goal.returns-in_default-clause-err
returns-in_default-clause-err c n e =
    let same : 0 ≡ n = cc in
    subst (λ (x : ℕ). IsBadWhole IsSignature c.args.blob.now x) same (bad_nothing c.args.blob.now c.in_default.len_below)

pub returns-in-1-clause-err : goal.returns-in-1-clause-err
returns-in-1-clause-err c n e =
    let same : 0 ≡ n = cc in
    subst (λ (x : ℕ). IsBadWhole IsSignature c.args.blob.now x) same (subst (λ (x : List ℕ). IsBadWhole IsSignature x 0) (sym (at_front c.args.blob.now 0x01 c.in-len1-up.len_at_least c.in-1.is)) (bad_void _))
