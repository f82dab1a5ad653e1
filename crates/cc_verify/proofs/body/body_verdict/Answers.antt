use Rattle.std.proofs.Common.{◌∙◌, length, refl}
use Rattle.cc_verify.proofs.Bodies.{whole_verdict}
use Rattle.cc_verify.proofs.Decoding.{decoded_within}
use Rattle.cc_verify.proofs.body.body_verdict.Goals as goal

pub starts_of-requires : goal.starts_of-requires
starts_of-requires c = rw c.as_slice.ensures (decoded_within c.in_ok-decoded.ensures)

pub returns-clause-verdict : goal.returns-clause-verdict
returns-clause-verdict c =
    let code = c.as_slice-code.result.now in
    whole_verdict c.args.environment c.args.frame c.args.body.now code c.in_ok-decoded.decoded.places c.in_ok-decoded.decoded.end c.in_ok-clauses.clauses (length code) c.in_ok-found.found
    c.as_slice-code.ensures (c.in_ok-clauses.ensures ∙ c.as_slice-2.ensures) refl c.in_ok-decoded.ensures c.in_ok-found.ensures
