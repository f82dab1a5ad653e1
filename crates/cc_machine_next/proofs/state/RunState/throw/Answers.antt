use Rattle.std.proofs.Common.{◌<◌, length, sym, ap, subst, ◌∙◌, arith, refl}
use Rattle.std.proofs.lemmas.Option.{slice_get_read}
use Rattle.cc_execution.specs.Step.{throw_value}
use Rattle.cc_machine_next.specs.Cells.{value_of}
use Rattle.cc_machine_next.specs.Flows.{Follows}
use Rattle.cc_machine_next.specs.RunState.{state_with, IsFine}
use Rattle.cc_machine_next.proofs.Throwing.{throws_popped, thrown_there, thrown}
use Rattle.cc_machine_next.proofs.state.RunState.throw.Goals as goal

pub index-requires : goal.index-requires
index-requires c =
    let s = c.args.self.now in let x = c.args.code.now in let f = s.frames in let heap = s.heap.items in let output = s.output.items in
    let f1 = c.pop.new.self in
    let low : c.in-Object.e < length heap = thrown_there x c.requires.clauses c.in-Object.e f1 heap s.room output
    (subst (IsFine x) (throws_popped x c.requires.clauses f f1 (value_of c.pop.result) c.args.limit c.args.next heap s.room output c.pop.ensures
    ∙ ap (λ v. throw_value x v (state_with f1 heap s.room output)) (ap value_of c.in-Object.is)) c.requires.fine) in
    omega (arith, low, s.heap.ok.0)

pub returns-in-Null : goal.returns-in-Null
returns-in-Null c =
    let s = c.args.self.now in let x = c.args.code.now in let f = s.frames in let heap = s.heap.items in let output = s.output.items in
    let f1 = c.pop.new.self in
    subst (λ o. Follows x c.throw_made.result o c.throw_made.new.self)
    (sym (throws_popped x c.requires.clauses f f1 (value_of c.pop.result) c.args.limit c.args.next heap s.room output c.pop.ensures
    ∙ ap (λ v. throw_value x v (state_with f1 heap s.room output)) (ap value_of c.in-Null.is)))
    c.throw_made.ensures.shows

pub returns-in-Object : goal.returns-in-Object
returns-in-Object c =
    let s = c.args.self.now in let x = c.args.code.now in let f = s.frames in let heap = s.heap.items in let output = s.output.items in
    let f1 = c.pop.new.self in let e = c.in-Object.e in
    let to = throws_popped x c.requires.clauses f f1 (value_of c.pop.result) c.args.limit c.args.next heap s.room output c.pop.ensures
    ∙ ap (λ v. throw_value x v (state_with f1 heap s.room output)) (ap value_of c.in-Object.is) in
    let low : e < length heap = thrown_there x c.requires.clauses e f1 heap s.room output (subst (IsFine x) to c.requires.fine) in
    to ∙ thrown x c.requires.clauses e c.index.result.now f1 heap s.room output (slice_get_read heap (length heap) e c.index.result.now refl low c.index.ensures)
