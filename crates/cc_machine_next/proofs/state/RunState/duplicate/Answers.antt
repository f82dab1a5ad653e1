use Rattle.std.proofs.Common.{◌∷◌, sym, ap, subst, ◌∙◌}
use Rattle.cc_execution.specs.Step.{goes_to}
use Rattle.cc_machine_next.specs.Cells.{value_of}
use Rattle.cc_machine_next.specs.Flows.{Follows}
use Rattle.cc_machine_next.specs.RunState.{state_with, world_with, IsFine}
use Rattle.cc_machine_next.proofs.Operations.{duplicates_top, duplicates}
use Rattle.cc_machine_next.proofs.state.RunState.duplicate.Goals as goal

pub top-cell-requires : goal.top-cell-requires
top-cell-requires c =
    let s = c.args.self.now in let x = c.args.code.now in let f = s.frames in let heap = s.heap.items in let output = s.output.items in
    duplicates_top x c.args.limit heap s.room output f c.args.next c.requires.fine

pub push_and_go-requires-clause-fine : goal.push_and_go-requires-clause-fine
push_and_go-requires-clause-fine c =
    let s = c.args.self.now in let x = c.args.code.now in let f = s.frames in let heap = s.heap.items in let output = s.output.items in
    let v = value_of c.top-cell.result in
    subst (IsFine x) (duplicates x c.args.limit heap s.room output f v c.top-cell.ensures.0 c.args.next c.top-cell.ensures.1
    ∙ ap (λ z. goes_to (state_with f heap s.room output) c.args.next (v ∷ z) (world_with f heap s.room output)) (sym c.top-cell.ensures.1)) c.requires.fine

pub returns : goal.returns
returns c =
    let s = c.args.self.now in let x = c.args.code.now in let f = s.frames in let heap = s.heap.items in let output = s.output.items in
    let v = value_of c.top-cell.result in
    subst (λ o. Follows x c.push_and_go.result o c.push_and_go.new.self)
    (sym (duplicates x c.args.limit heap s.room output f v c.top-cell.ensures.0 c.args.next c.top-cell.ensures.1
    ∙ ap (λ z. goes_to (state_with f heap s.room output) c.args.next (v ∷ z) (world_with f heap s.room output)) (sym c.top-cell.ensures.1))) c.push_and_go.ensures
