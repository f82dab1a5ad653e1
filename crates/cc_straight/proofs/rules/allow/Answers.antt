use Rattle.std.proofs.Common.{sym}
use Rattle.cc_straight.proofs.Allowed.{name_fault, node_fault, not_counted}
use Rattle.cc_straight.proofs.rules.allow.Goals as goal

pub returns-in-Err : goal.returns-in-Err
returns-in-Err c = name_fault c.args.tree.now _ c.naming.result c.in-Err.ensures.refused c.naming.ensures

pub returns-then-has_templates : goal.returns-then-has_templates
returns-then-has_templates c = (c.in-Ok.ensures.accepted, not_counted c.args.tree.now (sym c.if-has_templates.ensures))

pub expand-requires-clause-plain : goal.expand-requires-clause-plain
expand-requires-clause-plain c = sym c.if-has_templates.ensures

pub expand-requires-clause-declared : goal.expand-requires-clause-declared
expand-requires-clause-declared c = record { scopes = c.in-Ok.ensures.scopes; items = c.in-Ok.ensures.items; directives = c.in-Ok.ensures.directives }

pub returns : goal.returns
returns c = node_fault c.args.tree.now _ c.expanding.result c.in-Ok.ensures.accepted (sym c.if-has_templates.ensures) c.in-Err-expand.ensures c.expanding.ensures

pub returns-in-Ok-expand : goal.returns-in-Ok-expand
returns-in-Ok-expand c = (c.in-Ok.ensures.accepted, λ plain. c.in-Ok-expand.ensures.1)
