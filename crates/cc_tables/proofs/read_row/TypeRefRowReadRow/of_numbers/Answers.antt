use Rattle.std.proofs.Common.{◌∙◌, sym}
use Rattle.cc_tables.proofs.read_row.TypeRefRowReadRow.of_numbers.Goals as goal

pub returns-clause-only : goal.returns-clause-only
returns-clause-only c =
    λ s h.
    let the_scope = c.scope_of.ensures s.scope (h.0 ∙ sym (c.low_u32.ensures c.requires.fit.0)) in
    let the_name = c.in_ok-text_at.ensures.only s.name h.1.0 in
    let the_namespace = c.in_ok-text_at-2.ensures.only s.namespace h.1.1.0 in
    cc
