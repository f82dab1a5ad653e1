use Rattle.std.proofs.Common.{arith, sym, ◌∙◌}
use Rattle.std.proofs.lemmas.Bool.{eqb-true, eqb-false}
use Rattle.cc_layout.proofs.CompressedForms.{at_empty, at_first, at_second, at_third}
use Rattle.cc_layout.proofs.compressed.split_compressed.Goals as goal

pub returns-then-is_empty-clause-err : goal.returns-then-is_empty-clause-err
returns-then-is_empty-clause-err c = at_empty _ (eqb-true _ 0 (sym c.is_empty.ensures ∙ c.if-is_empty.true))

pub returns-then-a-ge224-clause-err : goal.returns-then-a-ge224-clause-err
returns-then-a-ge224-clause-err c = at_first _ (grind (arith, eqb-false, c.is_empty.ensures)) c.if-a-ge224.true

pub returns-then-b-lt128-clause-err : goal.returns-then-b-lt128-clause-err
returns-then-b-lt128-clause-err c = at_second _ (grind (arith, eqb-false, c.is_empty.ensures)) c.if-a.true c.if-b-lt128.true

pub returns-then-c-lt64-clause-err : goal.returns-then-c-lt64-clause-err
returns-then-c-lt64-clause-err c = at_third _ (grind (arith, eqb-false, c.is_empty.ensures)) c.if-a-2.true c.if-b-eq0.true c.if-c-lt64.true
