use Rattle.std.proofs.Common.{◌≡◌, [], ◌∷◌, sym, ap, subst, ◌∙◌}
use Rattle.std.specs.Prelude.{slice_get}
use Rattle.cc_execution.specs.Fundamental.{stored}
use Rattle.cc_execution.specs.Step.{return_to}
use Rattle.cc_machine_next.specs.Cells.{value_of}
use Rattle.cc_machine_next.specs.Flows.{Follows}
use Rattle.cc_machine_next.specs.RunState.{state_with, IsFine}
use Rattle.cc_machine_next.proofs.Operations.{never}
use Rattle.cc_machine_next.proofs.Returning.{heads, returner, has_returner, plain, valued, valued_leads}
use Rattle.std.proofs.lemmas.Option.{same_Some}
use Rattle.cc_machine_next.proofs.state.RunState.return_from.Goals as goal

pub method_at-requires : goal.method_at-requires
method_at-requires c =
    let s = c.args.self.now in let x = c.args.code.now in let f = s.frames in let heap = s.heap.items in let output = s.output.items in
    let t = has_returner x (state_with f heap s.room output) c.requires.fine c.args.tables.now c.requires.table in
    (t.0, ap (slice_get c.args.tables.now.methods) c.method.ensures ∙ t.1)

pub return_nothing-requires-clause-fine : goal.return_nothing-requires-clause-fine
return_nothing-requires-clause-fine c =
    let s = c.args.self.now in let x = c.args.code.now in let f = s.frames in let heap = s.heap.items in let output = s.output.items in
    let e = c.method_at.result.now in let st = state_with f heap s.room output in
    let r = returner x st c.requires.fine c.args.tables.now e c.requires.table (ap (slice_get c.args.tables.now.methods) (sym c.method.ensures) ∙ c.method_at.ensures) in
    subst (IsFine x) (plain x st c.requires.fine e r c.in-None.is) c.requires.fine

pub returns-in-None : goal.returns-in-None
returns-in-None c =
    let s = c.args.self.now in let x = c.args.code.now in let f = s.frames in let heap = s.heap.items in let output = s.output.items in
    let e = c.method_at.result.now in let st = state_with f heap s.room output in
    let r = returner x st c.requires.fine c.args.tables.now e c.requires.table (ap (slice_get c.args.tables.now.methods) (sym c.method.ensures) ∙ c.method_at.ensures) in
    subst (λ o. Follows x c.return_nothing.result o c.return_nothing.new.self) (sym (plain x st c.requires.fine e r c.in-None.is)) c.return_nothing.ensures

pub top-cell-requires : goal.top-cell-requires
top-cell-requires c =
    let s = c.args.self.now in let x = c.args.code.now in let f = s.frames in let heap = s.heap.items in let output = s.output.items in
    let e = c.method_at.result.now in let st = state_with f heap s.room output in
    let r = returner x st c.requires.fine c.args.tables.now e c.requires.table (ap (slice_get c.args.tables.now.methods) (sym c.method.ensures) ∙ c.method_at.ensures) in
    let o = valued x st c.requires.fine e r c.in-Some.of c.in-Some.is in
    (o.value, [], o.is_stack)

pub unreachable-requires : goal.unreachable-requires
unreachable-requires c =
    let s = c.args.self.now in let x = c.args.code.now in let f = s.frames in let heap = s.heap.items in let output = s.output.items in
    let e = c.method_at.result.now in let st = state_with f heap s.room output in
    let r = returner x st c.requires.fine c.args.tables.now e c.requires.table (ap (slice_get c.args.tables.now.methods) (sym c.method.ensures) ∙ c.method_at.ensures) in
    let of = c.in-Some.of in
    let o = valued x st c.requires.fine e r of c.in-Some.is in
    let v : value_of c.top-cell.result ≡ o.value = (heads (value_of c.top-cell.result) o.value c.top-cell.ensures.0 [] (sym c.top-cell.ensures.1 ∙ o.is_stack)) in
    never (stored of (value_of c.top-cell.result)) o.held c.in-None-stored.ensures (ap (stored of) v ∙ o.is_stored)

pub return_value-requires-clause-fine : goal.return_value-requires-clause-fine
return_value-requires-clause-fine c =
    let s = c.args.self.now in let x = c.args.code.now in let f = s.frames in let heap = s.heap.items in let output = s.output.items in
    let e = c.method_at.result.now in let st = state_with f heap s.room output in
    let r = returner x st c.requires.fine c.args.tables.now e c.requires.table (ap (slice_get c.args.tables.now.methods) (sym c.method.ensures) ∙ c.method_at.ensures) in
    let of = c.in-Some.of in
    let o = valued x st c.requires.fine e r of c.in-Some.is in
    let v : value_of c.top-cell.result ≡ o.value = (heads (value_of c.top-cell.result) o.value c.top-cell.ensures.0 [] (sym c.top-cell.ensures.1 ∙ o.is_stack)) in
    let held : value_of c.in-Some-stored.value ≡ o.held = same_Some _ _ (c.in-Some-stored.ensures ∙ ap (stored of) v ∙ o.is_stored) in
    subst (IsFine x) (valued_leads x st c.requires.fine e r of c.in-Some.is ∙ ap (λ k. return_to x st.callers (k ∷ []) st.world) (sym held)) c.requires.fine

pub returns-in-Some-stored : goal.returns-in-Some-stored
returns-in-Some-stored c =
    let s = c.args.self.now in let x = c.args.code.now in let f = s.frames in let heap = s.heap.items in let output = s.output.items in
    let e = c.method_at.result.now in let st = state_with f heap s.room output in
    let r = returner x st c.requires.fine c.args.tables.now e c.requires.table (ap (slice_get c.args.tables.now.methods) (sym c.method.ensures) ∙ c.method_at.ensures) in
    let of = c.in-Some.of in
    let o = valued x st c.requires.fine e r of c.in-Some.is in
    let v : value_of c.top-cell.result ≡ o.value = (heads (value_of c.top-cell.result) o.value c.top-cell.ensures.0 [] (sym c.top-cell.ensures.1 ∙ o.is_stack)) in
    let held : value_of c.in-Some-stored.value ≡ o.held = same_Some _ _ (c.in-Some-stored.ensures ∙ ap (stored of) v ∙ o.is_stored) in
    subst (λ z. Follows x c.return_value.result z c.return_value.new.self)
    (sym (valued_leads x st c.requires.fine e r of c.in-Some.is ∙ ap (λ k. return_to x st.callers (k ∷ []) st.world) (sym held))) c.return_value.ensures
