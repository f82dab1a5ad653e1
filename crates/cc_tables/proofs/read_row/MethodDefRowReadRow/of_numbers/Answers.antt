use Rattle.std.proofs.Common.{◌∙◌, sym}
use Rattle.cc_tables.proofs.read_row.MethodDefRowReadRow.of_numbers.Goals as goal

pub returns-clause-only : goal.returns-clause-only
returns-clause-only c =
    λ s h.
    let the_rva = c.low_u32.ensures c.requires.fit.0 ∙ sym h.0 in
    let the_flags = c.low_u16.ensures c.requires.fit.1.1.0 ∙ sym h.1.1.0 in
    let the_name = c.in_ok-text_at.ensures.only s.name h.1.1.1.0 in
    let the_signature = c.in_ok-text_at-2.ensures.only s.signature h.1.1.1.1.0 in
    let the_parameters = c.low_u32-2.ensures c.requires.fit.1.1.1.1.1.0 ∙ sym h.1.1.1.1.1.0 in
    cc
