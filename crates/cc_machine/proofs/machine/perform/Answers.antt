use Rattle.std.proofs.Common.{rules, sym, ◌∙◌, ap}
use Rattle.std.specs.Prelude.{reverse, length}
use Rattle.std.proofs.lemmas.List.{length-reverse}
use Rattle.cc_machine.proofs.Perform.{does_push, does_add, does_subtract, does_multiply, does_write, does_return}
use Rattle.cc_machine.proofs.machine.perform.Goals as goal

pub returns-in-Push-clause-does : goal.returns-in-Push-clause-does
returns-in-Push-clause-does c next = does_push c.args.action c.in-Push.value next _ _ _ c.in-Push.is c.push.ensures.pushed

pub returns-in-Add-clause-does : goal.returns-in-Add-clause-does
returns-in-Add-clause-does c next = does_add c.args.action c.pop-left.result c.pop-right.result next _ _ _ _ _ c.in-Add.is c.pop-right.ensures.popped c.pop-left.ensures.popped c.push-in-Add.ensures.pushed

pub returns-in-Subtract-clause-does : goal.returns-in-Subtract-clause-does
returns-in-Subtract-clause-does c next = does_subtract c.args.action c.pop-left-in-Subtract.result c.pop-right-in-Subtract.result next _ _ _ _ _ c.in-Subtract.is c.pop-right-in-Subtract.ensures.popped c.pop-left-in-Subtract.ensures.popped c.push-in-Subtract.ensures.pushed

pub returns-in-Multiply-clause-does : goal.returns-in-Multiply-clause-does
returns-in-Multiply-clause-does c next = does_multiply c.args.action c.pop-left-in-Multiply.result c.pop-right-in-Multiply.result next _ _ _ _ _ c.in-Multiply.is c.pop-right-in-Multiply.ensures.popped c.pop-left-in-Multiply.ensures.popped c.push-in-Multiply.ensures.pushed

pub returns-in_ok-write_line-in-WriteLine-clause-does : goal.returns-in_ok-write_line-in-WriteLine-clause-does
returns-in_ok-write_line-in-WriteLine-clause-does c next = does_write c.args.action c.pop-value.result next _ _ _ _ c.in-WriteLine.is c.pop-value.ensures.popped c.in_ok-write_line-in-WriteLine.ensures

pub returns-in-Return-clause-does : goal.returns-in-Return-clause-does
returns-in-Return-clause-does c next =
    let fits = c.requires in
    does_return c.args.action c.pop.result next fits.0 fits.1 _ _ _ c.args.output.now.items c.in-Return.is c.pop.ensures.popped (sym (length-reverse c.args.stack.now.items)) fits.2
