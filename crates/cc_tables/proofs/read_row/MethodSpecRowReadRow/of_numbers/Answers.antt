use Rattle.std.proofs.Common.{◌∙◌, sym}
use Rattle.cc_tables.proofs.read_row.MethodSpecRowReadRow.of_numbers.Goals as goal

pub returns-clause-only : goal.returns-clause-only
returns-clause-only c =
    λ s h.
    let the_method = c.method_of.ensures s.method (h.0 ∙ sym (c.low_u32.ensures c.requires.fit.0)) in
    let the_instantiation = c.in_ok-text_at.ensures.only s.instantiation h.1.0 in
    cc
