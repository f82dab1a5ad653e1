use Rattle.std.proofs.Common.{length}
use Rattle.std.specs.List.{flat_map}
use Rattle.cc_layout.proofs.Numbers.{on_err}
use Rattle.cc_cil.specs.Bodies.{section_head, clause_layout, is_small}
use Rattle.cc_cil.proofs.Writing.{first_stops}
use Rattle.cc_cil.proofs.write.write_section.Goals as goal

pub returns-in_err-write_head-clause-err : goal.returns-in_err-write_head-clause-err
returns-in_err-write_head-clause-err c =
    let small = is_small c.args.clauses.now in
    on_err c.from_residual.result _ (first_stops (section_head small (length c.args.clauses.now)) (flat_map (clause_layout small) c.args.clauses.now) _ _ (rw c.is_small-small.ensures at c.in_err-write_head.ensures.err))
