use Rattle.cc_tables.proofs.Numbered.{meets_both}
use Rattle.cc_tables.proofs.row.number_late.Goals as goal

pub returns : goal.returns
returns c = meets_both _ _ _ _ _ c.in_ok-number_list.ensures (meets_both _ _ _ _ _ c.in_ok-number_list-2.ensures (meets_both _ _ _ _ _ c.in_ok-number_list-3.ensures (meets_both _ _ _ _ _ c.in_ok-number_list-4.ensures (meets_both _ _ _ _ _ c.in_ok-number_list-5.ensures (meets_both _ _ _ _ _ c.in_ok-number_list-6.ensures (meets_both _ _ _ _ _ c.in_ok-number_list-7.ensures (meets_both _ _ _ _ _ c.in_ok-number_list-8.ensures (meets_both _ _ _ _ _ c.in_ok-number_list-9.ensures (meets_both _ _ _ _ _ c.in_ok-number_list-10.ensures c.in_ok-number_list-11.ensures)))))))))
