use Rattle.std.proofs.Common.{◌∙◌, sym}
use Rattle.cc_front.proofs.Faults.{node_fault}
use Rattle.cc_front.proofs.Plain.{built_plain}
use Rattle.cc_front.proofs.front.expanded.Goals as goal

pub expand-requires-clause-plain : goal.expand-requires-clause-plain
expand-requires-clause-plain c = built_plain c.args.tree.now c.requires.built

pub returns-in-Err : goal.returns-in-Err
returns-in-Err c = node_fault c.args.tree.now c.requires.built c.requires.named c.in-Err.fault c.told.result c.in-Err.ensures (sym c.refusal.ensures ∙ c.told.ensures)

pub returns-in-Ok : goal.returns-in-Ok
returns-in-Ok c = c.in-Ok.ensures.1
