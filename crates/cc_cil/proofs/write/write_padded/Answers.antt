use Rattle.std.proofs.lemmas.Result.{on_err_weaker, on_ok_weaker}
use Rattle.cc_cil.specs.Bodies.{zeros, padding, section_layout, is_small}
use Rattle.cc_cil.proofs.Writing.{both_written, second_stops}
use Rattle.cc_cil.proofs.write.write_padded.Goals as goal

pub returns-clause-ok : goal.returns-clause-ok
returns-clause-ok c = on_ok_weaker c.write_section.result (λ e. both_written (zeros (padding c.args.size)) (section_layout (is_small c.args.clauses.now) c.args.clauses.now) _ _ _ (rw c.padding.ensures at c.in_ok-write_zeros.ensures.ok) e) c.write_section.ensures.ok

pub returns-clause-err : goal.returns-clause-err
returns-clause-err c = on_err_weaker c.write_section.result (λ e. second_stops (zeros (padding c.args.size)) (section_layout (is_small c.args.clauses.now) c.args.clauses.now) _ _ _ (rw c.padding.ensures at c.in_ok-write_zeros.ensures.ok) e) c.write_section.ensures.err
