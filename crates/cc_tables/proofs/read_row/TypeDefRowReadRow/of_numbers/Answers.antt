use Rattle.std.proofs.Common.{◌∙◌, sym}
use Rattle.cc_tables.proofs.read_row.TypeDefRowReadRow.of_numbers.Goals as goal

pub returns-clause-only : goal.returns-clause-only
returns-clause-only c =
    λ s h.
    let the_flags = c.low_u32.ensures c.requires.fit.0 ∙ sym h.0 in
    let the_name = c.in_ok-text_at.ensures.only s.name h.1.0 in
    let the_namespace = c.in_ok-text_at-2.ensures.only s.namespace h.1.1.0 in
    let the_extends = c.type_of.ensures s.extends (h.1.1.1.0 ∙ sym (c.low_u32-2.ensures c.requires.fit.1.1.1.0)) in
    let the_fields = c.low_u32-3.ensures c.requires.fit.1.1.1.1.0 ∙ sym h.1.1.1.1.0 in
    let the_methods = c.low_u32-4.ensures c.requires.fit.1.1.1.1.1.0 ∙ sym h.1.1.1.1.1.0 in
    cc
