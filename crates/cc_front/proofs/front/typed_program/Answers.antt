use Rattle.std.proofs.Common.{◌∙◌, rules, sym}
use Rattle.cc_front.specs.Reading.{not_yet}
use Rattle.cc_front.proofs.front.typed_program.Goals as goal

pub returns-in_err-tree-clause-refused : goal.returns-in_err-tree-clause-refused
returns-in_err-tree-clause-refused c = let refused = c.in_err-tree.ensures in search (rules, refused)

pub returns-in-Some-clause-refused : goal.returns-in-Some-clause-refused
returns-in-Some-clause-refused c =
    not_yet c.in_ok-tree.ensures.tokens c.in_ok-tree.tree c.in_ok-tree.ensures.lexed c.in_ok-tree.ensures.parsed (sym c.first_not_built.ensures ∙ c.in-Some.is)
