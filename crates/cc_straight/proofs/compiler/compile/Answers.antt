use Rattle.std.proofs.Common.{rules}
use Rattle.cc_straight.specs.Form.{unit_source}
use Rattle.cc_straight.specs.Reading.{execution}
use Rattle.cc_straight.proofs.Refused.{tree_small, compiled_source, allowed_fault, not_straight_fault, code_fault, some_source, each_source}
use Rattle.cc_straight.proofs.compiler.compile.Goals as goal

pub returns-in_err-tree-clause-refused : goal.returns-in_err-tree-clause-refused
returns-in_err-tree-clause-refused c = let refused = c.in_err-tree.ensures execution in search (rules, refused)

pub compile_tree-requires : goal.compile_tree-requires
compile_tree-requires c = tree_small c.args.text.now c.in_ok-tree.tree c.in_ok-tree.ensures

pub returns-in_err-code-clause-refused : goal.returns-in_err-code-clause-refused
returns-in_err-code-clause-refused c =
    let refused = not_straight_fault c.args.text.now c.in_ok-tree.tree c.in_ok-tree.ensures _ (code_fault _ (unit_source c.in_ok-tree.tree) c.in_err-code.ensures) in
    search (rules, refused)

pub returns-in_err-allow-clause-refused : goal.returns-in_err-allow-clause-refused
returns-in_err-allow-clause-refused c =
    let refused = allowed_fault c.args.text.now c.in_ok-tree.tree c.in_ok-tree.ensures execution _ (compiled_source c.in_ok-code.code (unit_source c.in_ok-tree.tree) c.in_ok-code.ensures) c.in_err-allow.ensures in
    search (rules, refused)

pub returns-clause-compiled : goal.returns-clause-compiled
returns-clause-compiled c = some_source c.args.text.now c.in_ok-tree.tree c.in_ok-tree.ensures c.in_ok-allow.ensures.0 c.in_ok-allow.ensures.1 c.in_ok-code.code c.in_ok-code.ensures

pub returns-clause-each : goal.returns-clause-each
returns-clause-each c = each_source c.args.text.now c.in_ok-tree.tree c.in_ok-tree.ensures c.in_ok-allow.ensures.0 c.in_ok-allow.ensures.1 c.in_ok-code.code c.in_ok-code.ensures
