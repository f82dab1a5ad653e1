use Rattle.std.proofs.Common.{sym, subst}
use Rattle.cc_machine_next.specs.Flows.{Follows}
use Rattle.cc_machine_next.specs.RunState.{state_with, IsFine}
use Rattle.cc_machine_next.proofs.Stepping.{placed, steps}
use Rattle.cc_machine_next.proofs.state.RunState.step.Goals as goal

pub entry_at-entry-requires-clause-there : goal.entry_at-entry-requires-clause-there
entry_at-entry-requires-clause-there c =
    let s = c.args.self.now in let x = c.args.code.now in let f = s.frames in let heap = s.heap.items in let output = s.output.items in
    placed x c.args.limit (state_with f heap s.room output) c.requires.fine c.method.result c.at.result c.method.ensures c.at.ensures

pub perform-requires-clause-fine : goal.perform-requires-clause-fine
perform-requires-clause-fine c =
    let s = c.args.self.now in let x = c.args.code.now in let f = s.frames in let heap = s.heap.items in let output = s.output.items in
    let st = state_with f heap s.room output in
    let p = placed x c.args.limit st c.requires.fine c.method.result c.at.result c.method.ensures c.at.ensures in
    subst (IsFine x) (steps x c.args.limit st c.requires.fine c.method.result c.at.result c.method.ensures c.at.ensures p.0 p.1 c.entry_at-entry.result (c.entry_at-entry.ensures p.0 p.1)) c.requires.fine

pub returns : goal.returns
returns c =
    let s = c.args.self.now in let x = c.args.code.now in let f = s.frames in let heap = s.heap.items in let output = s.output.items in
    let st = state_with f heap s.room output in
    let p = placed x c.args.limit st c.requires.fine c.method.result c.at.result c.method.ensures c.at.ensures in
    subst (λ o. Follows x c.perform.result o c.perform.new.self)
    (sym (steps x c.args.limit st c.requires.fine c.method.result c.at.result c.method.ensures c.at.ensures p.0 p.1 c.entry_at-entry.result (c.entry_at-entry.ensures p.0 p.1))) c.perform.ensures
