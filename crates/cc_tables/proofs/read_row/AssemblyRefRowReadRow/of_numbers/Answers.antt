use Rattle.std.proofs.Common.{◌∙◌, sym}
use Rattle.cc_tables.proofs.read_row.AssemblyRefRowReadRow.of_numbers.Goals as goal

pub returns-clause-only : goal.returns-clause-only
returns-clause-only c =
    λ s h.
    let the_major = c.low_u16.ensures c.requires.fit.0 ∙ sym h.0 in
    let the_minor = c.low_u16-2.ensures c.requires.fit.1.0 ∙ sym h.1.0 in
    let the_build = c.low_u16-3.ensures c.requires.fit.1.1.0 ∙ sym h.1.1.0 in
    let the_revision = c.low_u16-4.ensures c.requires.fit.1.1.1.0 ∙ sym h.1.1.1.0 in
    let the_token = c.in_ok-text_at.ensures.only s.token h.1.1.1.1.1.0 in
    let the_name = c.in_ok-text_at-2.ensures.only s.name h.1.1.1.1.1.1.0 in
    cc
