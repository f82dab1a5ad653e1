use Rattle.cc_verify.specs.Places.{Begins}
use Rattle.cc_verify.proofs.Decoding.{begins_within, nowhere_past, decoding_on, decoding_ends}
use Rattle.cc_verify.proofs.decode.decode.Goals as goal

pub returns-in_default : goal.returns-in_default
returns-in_default c = decoding_ends c.args.code.now c.loop-at.at c.loop-at.places (λ i s. c.in_default.not-Ok _ (c.decode_one.ensures.spelled i s.0 s.2 s.1)) c.loop-at.invariant.leads

pub loop-at-preserved : goal.loop-at-preserved
loop-at-preserved c =
    let l = c.loop-at.invariant in
    let found = c.in-Ok.ensures.found in
    let begins : Begins c.args.code.now c.loop-at.at c.in-Ok.instruction = (found.0, found.1, c.in-Ok.ensures.in_range) in
    record {
      within = rw found.2 (begins_within c.args.code.now c.loop-at.at c.in-Ok.instruction begins l.within);
      leads = decoding_on c.args.code.now c.loop-at.at c.in-Ok.next c.in-Ok.instruction c.loop-at.places _ c.in_ok-push.ensures.ok begins found.2 l.leads;
    }

pub returns : goal.returns
returns c = decoding_ends c.args.code.now c.loop-at.at c.loop-at.places (nowhere_past c.args.code.now c.loop-at.at c.loop-at-test.false) c.loop-at.invariant.leads
