use Rattle.std.proofs.Common.{◌≡◌, ◌++◌, ap, sym, ◌∙◌, append_assoc, get_or, take, List, ℕ}
use Rattle.cc_cil.specs.declared.body.Clause.{Clause}
use Rattle.cc_cil.specs.declared.body.ClauseKind.TheVariants.{Catch}
use Rattle.cc_listing.specs.Bodies.{clause_line, clause_lines}
use Rattle.cc_listing.proofs.ClauseLines.{clause_lines_more}
use Rattle.cc_listing.proofs.clauses.list_clauses.Goals as goal

pub loop-clause-preserved : goal.loop-clause-preserved
loop-clause-preserved c =
    let clauses = c.args.clauses.now in
    let i = c.loop-clause.clause-index in
    let d : Clause = record { kind = Catch; try_first = 0; try_length = 0; handler_first = 0; handler_length = 0; class = 0 } in
    let shown = clause_line (get_or clauses i d) in
    let before = c.args.into.now.items in
    let line = c.as_bytes.ensures.value ∙ c.in_ok-line.ensures in
    c.in_ok-extend_from_slice.ensures.items
    ∙ ap (λ (l : List ℕ). c.loop-clause.into.items ++ l) line
    ∙ ap (λ (l : List ℕ). l ++ shown) c.loop-clause.invariant
    ∙ append_assoc before (clause_lines (take i clauses)) shown
    ∙ ap (λ (l : List ℕ). before ++ l) (sym (clause_lines_more clauses i d c.loop-clause-test.true))
