use Rattle.std.proofs.Common.{◌∙◌, sym}
use Rattle.cc_front.proofs.Faults.{type_fault}
use Rattle.cc_front.proofs.front.elaborated.Goals as goal

pub elaborate-requires-clause-scopes : goal.elaborate-requires-clause-scopes
elaborate-requires-clause-scopes c = c.requires.declared.scopes

pub elaborate-requires-clause-items : goal.elaborate-requires-clause-items
elaborate-requires-clause-items c = c.requires.declared.items

pub elaborate-requires-clause-directives : goal.elaborate-requires-clause-directives
elaborate-requires-clause-directives c = c.requires.declared.directives

pub returns-in-Err : goal.returns-in-Err
returns-in-Err c = type_fault c.args.tree.now c.requires.built c.requires.named c.requires.room _ c.told.result c.in-Err.ensures.refused (sym c.refusal.ensures ∙ c.told.ensures)
