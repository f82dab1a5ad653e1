use Rattle.std.proofs.Common.{◌≡◌, ◌+◌, ◌∷◌, drop, sym, ap, subst, ◌∙◌, arith}
use Rattle.std.proofs.lemmas.List.{drop_more}
use Rattle.cc_straight.specs.Form.{line_term, line_terms}
use Rattle.cc_straight.proofs.LinesAdded.{Leads, leads_on}
use Rattle.cc_straight.proofs.lines.add_lines.Goals as goal

pub loop-statement-preserved : goal.loop-statement-preserved
loop-statement-preserved c =
    let all = c.args.statements.now in
    let i = c.loop-statement.statement-index in
    let one = c.statement-item.result in
    let here : drop i all ≡ one ∷ drop (i + 1) all = drop_more all i one (omega (arith, c.loop-statement-test.true)) ∙ ap (λ s. s ∷ drop (i + 1) all) (sym c.statement-item.is) in
    leads_on (line_term one) (line_terms (drop (i + 1) all)) (line_terms all) c.args.into.now.items c.loop-statement.into.items c.add_line.new.into.items
    (subst (λ left. Leads c.args.into.now.items c.loop-statement.into.items (line_terms all) (line_terms left)) here c.loop-statement.invariant)
    c.in_ok-add_line.ensures
