use Rattle.cc_functions.proofs.Pushes.{six_pushed}
use Rattle.cc_functions.proofs.console.append_printing.Goals as goal

pub returns : goal.returns
returns c =
    six_pushed _ _ _ _ _ _ _ _ _ _ _ _ _ _ _ _ _ _ _ c.in_ok-printing_row.ensures c.in_ok-push.ensures.ok c.in_ok-printing_row-2.ensures c.in_ok-push-2.ensures.ok c.in_ok-printing_row-3.ensures c.in_ok-push-3.ensures.ok
    c.in_ok-printing_row-4.ensures c.in_ok-push-4.ensures.ok c.in_ok-printing_row-5.ensures c.in_ok-push-5.ensures.ok c.in_ok-printing_row-6.ensures c.in_ok-push-6.ensures.ok
