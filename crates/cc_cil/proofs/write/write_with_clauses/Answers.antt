use Rattle.std.proofs.lemmas.Result.{on_err_weaker, on_ok_weaker}
use Rattle.cc_layout.proofs.Numbers.{on_err}
use Rattle.cc_cil.proofs.Writing.{body_written, front_stops, tail_stops}
use Rattle.cc_cil.proofs.write.write_with_clauses.Goals as goal

pub returns-in_err-write_fat-clause-err : goal.returns-in_err-write_fat-clause-err
returns-in_err-write_fat-clause-err c = on_err c.from_residual.result _ (front_stops c.args.body.now _ _ c.requires.clauses c.in_err-write_fat.ensures.err)

pub returns-clause-ok : goal.returns-clause-ok
returns-clause-ok c = on_ok_weaker c.write_padded.result (λ e. body_written c.args.body.now _ _ _ c.requires.clauses c.in_ok-write_fat.ensures.ok e) (rw (c.as_slice.ensures, c.len.ensures) at c.write_padded.ensures.ok)

pub returns-clause-err : goal.returns-clause-err
returns-clause-err c = on_err_weaker c.write_padded.result (λ e. tail_stops c.args.body.now _ _ _ c.requires.clauses c.in_ok-write_fat.ensures.ok e) (rw (c.as_slice.ensures, c.len.ensures) at c.write_padded.ensures.err)
