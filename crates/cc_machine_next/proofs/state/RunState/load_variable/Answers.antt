use Rattle.std.proofs.Common.{◌∷◌, sym, subst}
use Rattle.cc_execution.specs.Step.{goes_to}
use Rattle.cc_machine_next.specs.Cells.{value_of}
use Rattle.cc_machine_next.specs.Flows.{Follows}
use Rattle.cc_machine_next.specs.RunState.{state_with, world_with, IsFine}
use Rattle.cc_machine_next.proofs.Operations.{given_some, loads}
use Rattle.std.specs.Prelude.{slice_get}
use Rattle.std.proofs.lemmas.Option.{slice_get_within}
use Rattle.cc_machine_next.proofs.state.RunState.load_variable.Goals as goal

pub variable-cell-requires : goal.variable-cell-requires
variable-cell-requires c =
    let s = c.args.self.now in let x = c.args.code.now in let f = s.frames in let heap = s.heap.items in let output = s.output.items in
    let there = given_some x (slice_get f.now.variables c.args.place) (λ v. goes_to (state_with f heap s.room output) c.args.next (v ∷ f.now.stack) (world_with f heap s.room output)) c.requires.fine in
    slice_get_within f.now.variables c.args.place there.0 there.1

pub push_and_go-requires-clause-fine : goal.push_and_go-requires-clause-fine
push_and_go-requires-clause-fine c =
    let s = c.args.self.now in let x = c.args.code.now in let f = s.frames in let heap = s.heap.items in let output = s.output.items in
    subst (IsFine x) (loads x c.args.limit heap s.room output f c.args.place c.args.next (value_of c.variable-cell.result) c.variable-cell.ensures) c.requires.fine

pub returns : goal.returns
returns c =
    let s = c.args.self.now in let x = c.args.code.now in let f = s.frames in let heap = s.heap.items in let output = s.output.items in
    subst (λ o. Follows x c.push_and_go.result o c.push_and_go.new.self) (sym (loads x c.args.limit heap s.room output f c.args.place c.args.next (value_of c.variable-cell.result) c.variable-cell.ensures)) c.push_and_go.ensures
