use Rattle.std.proofs.Common.{[], refl, sym, subst}
use Rattle.cc_cil.specs.declared.body.Body.{Body}
use Rattle.cc_core.specs.StraightSource.{source_operations}
use Rattle.cc_straight.specs.Form.{unit_source}
use Rattle.cc_straight.specs.Added.{AreAdded}
use Rattle.cc_straight.specs.Straight.{IsCodeOf}
use Rattle.cc_straight.specs.Reading.{IsCompiled}
use Rattle.std.specs.Prelude.{Ok}
use Rattle.cc_straight.proofs.Compiled.{added_all, runs_as, code_short}
use Rattle.cc_straight.proofs.Executes.{source_checks}
use Rattle.cc_straight.proofs.compiler.compile_tree.Goals as goal

pub checked-requires-clause-long : goal.checked-requires-clause-long
checked-requires-clause-long c =
    let added = added_all (unit_source c.args.tree.now) c.add_unit.new.into.items (subst (λ old. AreAdded source_operations (unit_source c.args.tree.now) old c.add_unit.new.into.items) c.new-operations.ensures.items c.in_ok-add_unit.ensures) in
    code_short added.source c.add_unit.new.into.items c.in_ok-code.code.items (subst (λ os. IsCodeOf c.in_ok-code.code.items os) c.as_slice.ensures.value c.in_ok-code.ensures) added.operations_are (c.requires added.source added.is_source)

pub checked-requires-clause-fine : goal.checked-requires-clause-fine
checked-requires-clause-fine c =
    let added = added_all (unit_source c.args.tree.now) c.add_unit.new.into.items (subst (λ old. AreAdded source_operations (unit_source c.args.tree.now) old c.add_unit.new.into.items) c.new-operations.ensures.items c.in_ok-add_unit.ensures) in
    let body : Body = record { max_stack = 256; locals = 0; code = c.in_ok-code.code.items; clauses = [] } in
    source_checks body added.source
    (runs_as body added.source c.add_unit.new.into.items c.in_ok-code.code.items refl (subst (λ os. IsCodeOf c.in_ok-code.code.items os) c.as_slice.ensures.value c.in_ok-code.ensures) added.operations_are (c.requires added.source added.is_source))

pub returns : goal.returns
returns c =
    let added = added_all (unit_source c.args.tree.now) c.add_unit.new.into.items (subst (λ old. AreAdded source_operations (unit_source c.args.tree.now) old c.add_unit.new.into.items) c.new-operations.ensures.items c.in_ok-add_unit.ensures) in
    subst (λ judged. IsCompiled (Ok c.in_ok-code-2.code) judged) (sym added.is_source)
    (runs_as c.in_ok-code-2.code added.source c.add_unit.new.into.items c.in_ok-code.code.items c.in_ok-code-2.ensures (subst (λ os. IsCodeOf c.in_ok-code.code.items os) c.as_slice.ensures.value c.in_ok-code.ensures) added.operations_are (c.requires added.source added.is_source))
