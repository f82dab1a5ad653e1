use Rattle.std.proofs.Common.{◌∙◌, sym}
use Rattle.cc_front.proofs.Faults.{name_fault}
use Rattle.cc_front.proofs.front.program_of.Goals as goal

pub returns-in-Err : goal.returns-in-Err
returns-in-Err c = name_fault c.args.tree.now c.requires _ c.told.result c.in-Err.ensures.refused (sym c.refusal.ensures ∙ c.told.ensures)
