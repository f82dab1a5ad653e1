use Rattle.std.proofs.Common.{◌∙◌, sym}
use Rattle.cc_tables.proofs.read_row.MethodImplRowReadRow.of_numbers.Goals as goal

pub returns-clause-only : goal.returns-clause-only
returns-clause-only c =
    λ s h.
    let the_class = c.low_u32.ensures c.requires.fit.0 ∙ sym h.0 in
    let the_body = c.method_of.ensures s.body (h.1.0 ∙ sym (c.low_u32-2.ensures c.requires.fit.1.0)) in
    let the_declaration = c.method_of-2.ensures s.declaration (h.1.1.0 ∙ sym (c.low_u32-3.ensures c.requires.fit.1.1.0)) in
    cc
