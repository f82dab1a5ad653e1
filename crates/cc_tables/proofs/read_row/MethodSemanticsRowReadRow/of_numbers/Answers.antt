use Rattle.std.proofs.Common.{◌∙◌, sym, arith}
use Rattle.cc_tables.proofs.read_row.MethodSemanticsRowReadRow.of_numbers.Goals as goal

pub returns-clause-only : goal.returns-clause-only
returns-clause-only c =
    λ s h.
    let the_kind = c.accessor_of.ensures s.kind (h.0 ∙ sym (c.low_u32.ensures (omega (arith, c.requires.fit.0)))) in
    let the_method = c.low_u32-2.ensures c.requires.fit.1.0 ∙ sym h.1.0 in
    let the_association = c.semantics_of.ensures s.association (h.1.1.0 ∙ sym (c.low_u32-3.ensures c.requires.fit.1.1.0)) in
    cc
