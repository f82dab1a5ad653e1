use Rattle.std.proofs.Common.{rules, inl, subst}
use Rattle.cc_straight.specs.Form.{unit_source}
use Rattle.cc_straight.specs.Reading.{checking, IsFirst}
use Rattle.cc_straight.proofs.Refused.{allowed_fault, not_typed_fault, checked_source}
use Rattle.cc_straight.proofs.compiler.check.Goals as goal

pub returns-in_err-tree-clause-refused : goal.returns-in_err-tree-clause-refused
returns-in_err-tree-clause-refused c = let refused = c.in_err-tree.ensures checking in search (rules, refused)

pub returns-in_err-allow-in-None-clause-refused : goal.returns-in_err-allow-in-None-clause-refused
returns-in_err-allow-in-None-clause-refused c =
    let straight = subst (λ first. IsFirst first (unit_source c.in_ok-tree.tree)) c.in-None.is c.in_ok-first_not_straight.ensures in
    let refused = allowed_fault c.args.text.now c.in_ok-tree.tree c.in_ok-tree.ensures checking _ (inl straight) c.in_err-allow-in-None.ensures in
    search (rules, refused)

pub returns-clause-refused : goal.returns-clause-refused
returns-clause-refused c =
    not_typed_fault c.args.text.now c.in_ok-tree.tree c.in_ok-tree.ensures c.in-Some.place _
    (subst (λ first. IsFirst first (unit_source c.in_ok-tree.tree)) c.in-Some.is c.in_ok-first_not_straight.ensures) c.not_typed.ensures

pub returns-in-None-clause-accepted : goal.returns-in-None-clause-accepted
returns-in-None-clause-accepted c =
    checked_source c.args.text.now c.in_ok-tree.tree c.in_ok-tree.ensures c.in_ok-allow-in-None.ensures.0 c.in_ok-allow-in-None.ensures.1
    (subst (λ first. IsFirst first (unit_source c.in_ok-tree.tree)) c.in-None.is c.in_ok-first_not_straight.ensures)
