use Rattle.std.proofs.Common.{rules, ◌≡◌, ◌∙◌, ap, Some, arith}
use Rattle.cc_cil.proofs.Reading.{start_whole, start_fine, start_left, start_reached, clause_ends, on_whole, on_fine, on_left, on_reached}
use Rattle.cc_cil.proofs.read.read_clauses.Goals as goal

pub loop-init : goal.loop-init
loop-init c = record {
  whole = start_whole _ _ _ _ c.new-clauses.ensures;
  fine = start_fine _ _ _ _ c.new-clauses.ensures;
  left = start_left _ _ _ c.new-clauses.ensures;
  reached = start_reached _ _ _ c.new-clauses.ensures;
  end = omega arith;
}

pub returns-in_err-check_section-clause-fault : goal.returns-in_err-check_section-clause-fault
returns-in_err-check_section-clause-fault c f e n =
    let inv = c.loop.invariant in
    let same : c.in_err-check_section.field-0.0 ≡ f = search rules in
    clause_ends c.args.small _ _ _ _ _ _ _ _ c.loop-test.true c.clause_in-clause.ensures inv.whole inv.fine inv.left inv.reached _ f c.clause_layout.ensures (c.in_err-check_section.ensures.err ∙ ap Some same)

pub loop-preserved : goal.loop-preserved
loop-preserved c =
    let inv = c.loop.invariant in
    record {
      whole = rw (c.split_at.ensures.back, c.clause_width.ensures) (on_whole c.args.small _ _ _ _ _ _ _ _ c.loop-test.true c.clause_in-clause.ensures inv.whole inv.fine inv.left inv.reached _ c.in_ok-push.ensures.ok);
      fine = on_fine c.args.small _ _ _ _ _ _ _ _ c.loop-test.true c.clause_in-clause.ensures inv.whole inv.fine inv.left inv.reached _ c.in_ok-push.ensures.ok _ c.clause_layout.ensures c.in_ok-check_section.ensures.ok;
      left = c.split_at.ensures.back ∙ rw c.clause_width.ensures (on_left c.args.small _ _ _ _ _ _ _ _ c.loop-test.true c.clause_in-clause.ensures inv.whole inv.fine inv.left inv.reached _ c.in_ok-push.ensures.ok);
      reached = rw c.clause_width-place.ensures (on_reached c.args.small _ _ _ _ _ _ _ _ c.loop-test.true c.clause_in-clause.ensures inv.whole inv.fine inv.left inv.reached _ c.in_ok-push.ensures.ok);
      end = omega (arith, inv.end, c.split_at.ensures.back_len);
    }
