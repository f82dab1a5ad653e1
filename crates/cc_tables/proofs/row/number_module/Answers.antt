use Rattle.cc_tables.proofs.Numbered.{meets_both}
use Rattle.cc_tables.proofs.row.number_module.Goals as goal

pub returns : goal.returns
returns c = meets_both _ _ _ _ _ c.in_ok-number_early.ensures c.in_ok-number_late.ensures
