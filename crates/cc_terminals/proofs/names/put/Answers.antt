use Rattle.cc_terminals.proofs.Collected.{put_one}
use Rattle.cc_terminals.proofs.names.put.Goals as goal

pub returns-in_ok-insert-in-Some : goal.returns-in_ok-insert-in-Some
returns-in_ok-insert-in-Some c = λ word. put_one c.args.found c.in-Some.name c.in-Some.is word _ _ (c.in_ok-insert-in-Some.ensures.updates.0 (record { ref_ptr = (0, 0); now = word }))
