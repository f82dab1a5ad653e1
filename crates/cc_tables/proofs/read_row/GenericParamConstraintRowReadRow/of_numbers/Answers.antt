use Rattle.std.proofs.Common.{◌∙◌, sym}
use Rattle.cc_tables.proofs.read_row.GenericParamConstraintRowReadRow.of_numbers.Goals as goal

pub returns-clause-only : goal.returns-clause-only
returns-clause-only c =
    λ s h.
    let the_owner = c.low_u32.ensures c.requires.fit.0 ∙ sym h.0 in
    let the_constraint = c.type_of.ensures s.constraint (h.1.0 ∙ sym (c.low_u32-2.ensures c.requires.fit.1.0)) in
    cc
