use Rattle.std.proofs.Common.{◌∙◌, sym}
use Rattle.cc_tables.proofs.read_row.ConstantRowReadRow.of_numbers.Goals as goal

pub returns-clause-only : goal.returns-clause-only
returns-clause-only c =
    λ s h.
    let the_element_type = c.low_u8.ensures c.requires.fit.0 ∙ sym h.0 in
    let the_parent = c.constant_of.ensures s.parent (h.1.1.0 ∙ sym (c.low_u32.ensures c.requires.fit.1.1.0)) in
    let the_value = c.in_ok-text_at.ensures.only s.value h.1.1.1.0 in
    cc
