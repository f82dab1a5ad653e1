use Rattle.cc_core.specs.declared.straight.StraightOperation.TheVariants as operation
use Rattle.cc_core.specs.StraightSource.{line_operations}
use Rattle.cc_straight.specs.Form.{line_term}
use Rattle.cc_straight.proofs.Adding.{pushed_on}
use Rattle.cc_straight.proofs.LinesAdded.{line_added}
use Rattle.cc_straight.proofs.lines.add_line.Goals as goal

pub returns-in_ok-add_printed-in-Expression : goal.returns-in_ok-add_printed-in-Expression
returns-in_ok-add_printed-in-Expression c =
    pushed_on c.push.result line_operations operation.WriteLine (line_term c.args.statement.now) c.args.into.now.items c.add_printed.new.into.items c.push.new.into.items c.push.ensures
    (line_added c.args.statement.now c.in-Expression.expression c.in-Expression.field-1 c.args.into.now.items c.add_printed.new.into.items c.push.new.into.items c.in-Expression.is c.in_ok-add_printed-in-Expression.ensures)
