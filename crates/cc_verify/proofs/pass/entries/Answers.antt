use Rattle.std.proofs.Common.{ap, ◌∙◌, length}
use Rattle.std.proofs.lemmas.List.{length-replicate}
use Rattle.cc_verify.specs.Passes.{give_at}
use Rattle.cc_verify.proofs.Tables.{table_empty, entries_at, give_length, handler_at}
use Rattle.cc_verify.proofs.pass.entries.Goals as goal

pub loop-clause-init : goal.loop-clause-init
loop-clause-init c = record {
  table = table_empty _ _ c.in_ok-known.ensures;
  long = ap length c.in_ok-known.ensures ∙ length-replicate _ _;
}

pub loop-clause-preserved : goal.loop-clause-preserved
loop-clause-preserved c =
    let inv = c.loop-clause.invariant in
    let given = c.in_ok-give.ensures ∙ ap (λ at. give_at c.loop-clause.known.items at c.in_ok-entry.entry) c.from.ensures in
    let within = handler_at c.args.clauses.now c.args.size c.loop-clause.clause-index _ c.loop-clause-test.true c.requires in
    record {
      table = entries_at c.args.environment.now c.args.clauses.now c.loop-clause.clause-index _ _ _ _ _ c.loop-clause-test.true c.in_ok-entry.ensures given within inv.long inv.table;
      long = ap length c.in_ok-give.ensures ∙ give_length _ _ _ ∙ inv.long;
    }
