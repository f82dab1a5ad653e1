use Rattle.cc_layout.proofs.Numbers.{on_err}
use Rattle.cc_cil.proofs.Writing.{clause_written, clause_stops}
use Rattle.cc_cil.proofs.write.write_clauses.Goals as goal

pub returns-in_err-write_fields-clause-err : goal.returns-in_err-write_fields-clause-err
returns-in_err-write_fields-clause-err c =
    on_err c.from_residual.result _ (clause_stops c.args.small c.args.clauses.now c.loop-clause.clause-index _ c.loop-clause-test.true _ _ _ _ c.clause_layout.ensures c.loop-clause.invariant c.in_err-write_fields.ensures.err)

pub loop-clause-preserved : goal.loop-clause-preserved
loop-clause-preserved c = clause_written c.args.small c.args.clauses.now c.loop-clause.clause-index _ c.loop-clause-test.true _ _ _ _ c.clause_layout.ensures c.loop-clause.invariant c.in_ok-write_fields.ensures.ok
