use Rattle.std.specs.Prelude.{[]}
use Rattle.cc_execution.specs.Run.{first_world, begin}
use Rattle.cc_machine_next.proofs.Running.{fine_next}
use Rattle.cc_machine_next.proofs.machine.Machine.at_entry.Goals as goal

pub entry_state-requires-clause-fine : goal.entry_state-requires-clause-fine
entry_state-requires-clause-fine c = fine_next c.args.code c.args.limit (begin c.args.code c.args.limit (first_world c.args.cells [])) (c.requires.fine 0)
