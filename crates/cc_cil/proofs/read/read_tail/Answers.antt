use Rattle.std.proofs.Common.{rules, ◌≡◌, ◌∙◌, ap, Some}
use Rattle.cc_cil.specs.Bodies.{zeros, padding}
use Rattle.cc_cil.proofs.Reading.{both_ok, ok_weaker, zeros_end, zeros_taken, padding-below, tail_after, tail_past, tail_fine}
use Rattle.cc_cil.proofs.read.read_tail.Goals as goal

pub returns-in_err-check_section-clause-fault : goal.returns-in_err-check_section-clause-fault
returns-in_err-check_section-clause-fault c f e n =
    let same : c.in_err-check_section.field-0.0 ≡ f = search rules in
    let zero : c.split_at.result.0.now ≡ zeros (padding c.args.size) = c.split_at.ensures.front ∙ rw c.padding-count.ensures (zeros_taken (padding c.args.size) _ _ _ (padding-below c.args.size) c.number.ensures c.number-2.ensures c.number-3.ensures) in
    zeros_end c.args.at c.args.size c.args.bytes.now f (rw zero at (c.in_err-check_section.ensures.err ∙ ap Some same))

pub returns-clause-values : goal.returns-clause-values
returns-clause-values c =
    ok_weaker _ _ c.read_section.result (λ r h. (h.0, h.1 ∙ tail_past c.args.at c.args.size c.args.bytes.now)) (rw (c.split_at-2.ensures.back, c.padding-count.ensures) at c.read_section.ensures.values)

pub returns-clause-found : goal.returns-clause-found
returns-clause-found c =
    let zero : c.split_at.result.0.now ≡ zeros (padding c.args.size) = c.split_at.ensures.front ∙ rw c.padding-count.ensures (zeros_taken (padding c.args.size) _ _ _ (padding-below c.args.size) c.number.ensures c.number-2.ensures c.number-3.ensures) in
    let found = rw (c.split_at-2.ensures.back, c.padding-count.ensures) at c.read_section.ensures.found in
    let form = rw (c.split_at-2.ensures.back, c.padding-count.ensures) at c.read_section.ensures.form in
    both_ok c.read_section.result (λ e g. tail_fine c.args.at c.args.size c.args.bytes.now e g (rw zero at c.in_ok-check_section.ensures.ok)) found form

pub returns-clause-fault : goal.returns-clause-fault
returns-clause-fault c f e n =
    let zero : c.split_at.result.0.now ≡ zeros (padding c.args.size) = c.split_at.ensures.front ∙ rw c.padding-count.ensures (zeros_taken (padding c.args.size) _ _ _ (padding-below c.args.size) c.number.ensures c.number-2.ensures c.number-3.ensures) in
    tail_after c.args.at c.args.size c.args.bytes.now (rw zero at c.in_ok-check_section.ensures.ok) ∙ rw (c.split_at-2.ensures.back, c.padding-count.ensures) at (c.read_section.ensures.fault f e n)
