use Rattle.std.proofs.Common.{◌≡◌, ◌+◌, ◌<◌, ◌≤◌, ◌++◌, length, sym, ap, ◌∙◌, arith}
use Rattle.std.specs.Prelude.{map, reverse}
use Rattle.std.proofs.lemmas.Bool.{lt-ltb, le-ltb}
use Rattle.std.proofs.lemmas.List.{length-map, length-append, length-reverse}
use Rattle.cc_execution.specs.State.{Ends}
use Rattle.cc_execution.specs.Fundamental.{stored_each}
use Rattle.cc_execution.specs.Step.{zeros_of}
use Rattle.cc_machine_next.specs.Frames.{HeldFrame, Frames, pushed, dropped, gone_to, with_stack}
use Rattle.cc_machine_next.specs.Frames as spec
use Rattle.cc_machine_next.specs.RunState.{frame_of, world_with}
use Rattle.cc_base.specs.declared.running.Ending.TheVariants as ending
use Rattle.cc_machine_next.proofs.Calling.{callee, has_entry, enters_none, enters, room_entered}
use Rattle.cc_machine_next.proofs.state.RunState.call.Goals as goal

pub method_at-callee-requires : goal.method_at-callee-requires
method_at-callee-requires c =
    let s = c.args.self.now in let x = c.args.code.now in let f = s.frames in let heap = s.heap.items in let output = s.output.items in
    has_entry x c.args.limit c.args.n c.args.next f heap s.room output c.args.tables.now c.requires.table c.requires.fine

pub store_arguments-requires-clause-there : goal.store_arguments-requires-clause-there
store_arguments-requires-clause-there c =
    let s = c.args.self.now in let x = c.args.code.now in let f = s.frames in let heap = s.heap.items in let output = s.output.items in
    let e = c.method_at-callee.result.now in
    let k = callee x c.args.limit c.args.n c.args.next f heap s.room output c.args.tables.now e c.requires.table c.method_at-callee.ensures c.requires.fine in
    let call = k.call in
    let types = c.as_slice-parameters.result.now in
    let same : types ≡ e.parameters = c.as_slice-parameters.ensures in
    let stored = ap (λ ts. stored_each ts call.arguments) same ∙ k.are_stored in
    (call.arguments, call.rest, call.values, call.stack_is, stored)

pub store_arguments-requires-clause-count : goal.store_arguments-requires-clause-count
store_arguments-requires-clause-count c =
    let s = c.args.self.now in let x = c.args.code.now in let f = s.frames in let heap = s.heap.items in let output = s.output.items in
    let e = c.method_at-callee.result.now in
    let k = callee x c.args.limit c.args.n c.args.next f heap s.room output c.args.tables.now e c.requires.table c.method_at-callee.ensures c.requires.fine in
    let call = k.call in
    let types = c.as_slice-parameters.result.now in
    let same : types ≡ e.parameters = c.as_slice-parameters.ensures in
    let stored = ap (λ ts. stored_each ts call.arguments) same ∙ k.are_stored in
    omega (arith, ap length same, k.height)

pub enter-requires : goal.enter-requires
enter-requires c =
    let s = c.args.self.now in let x = c.args.code.now in let f = s.frames in let heap = s.heap.items in let output = s.output.items in
    let e = c.method_at-callee.result.now in
    let k = callee x c.args.limit c.args.n c.args.next f heap s.room output c.args.tables.now e c.requires.table c.method_at-callee.ensures c.requires.fine in
    let call = k.call in
    let types = c.as_slice-parameters.result.now in
    let same : types ≡ e.parameters = c.as_slice-parameters.ensures in
    let stored = ap (λ ts. stored_each ts call.arguments) same ∙ k.are_stored in
    let g = c.store_arguments.ensures call.arguments call.rest call.values call.stack_is stored in
    let deep : length c.store_arguments.new.self.now.stack ≡ length call.values + length call.rest =
    ap (λ (z : Frames). length z.now.stack) g ∙ length-append (reverse call.values) call.rest ∙ ap (λ j. j + length call.rest) (length-reverse call.values) in
    omega (arith, deep, k.count, ap length same)

pub returns-then-callers-limit : goal.returns-then-callers-limit
returns-then-callers-limit c =
    let s = c.args.self.now in let x = c.args.code.now in let f = s.frames in let heap = s.heap.items in let output = s.output.items in
    let e = c.method_at-callee.result.now in
    let k = callee x c.args.limit c.args.n c.args.next f heap s.room output c.args.tables.now e c.requires.table c.method_at-callee.ensures c.requires.fine in
    let call = k.call in
    let types = c.as_slice-parameters.result.now in
    let same : types ≡ e.parameters = c.as_slice-parameters.ensures in
    let stored = ap (λ ts. stored_each ts call.arguments) same ∙ k.are_stored in
    let g = c.store_arguments.ensures call.arguments call.rest call.values call.stack_is stored in
    let f1 = c.store_arguments.new.self in
    let full : c.args.limit ≤ length (map frame_of f.below) + 1 = omega (arith, length-map f.below frame_of, c.callers.ensures.all, ap (λ (z : Frames). length z.below) g) in
    call.leads ∙ enters_none x c.args.limit c.args.n f heap s.room output call.method call.values call.rest (le-ltb (length (map frame_of f.below) + 1) c.args.limit full)
    ∙ ap (λ z. Ends ending.DepthLimit (world_with z heap s.room output)) (sym g)

pub returns-in-Ok : goal.returns-in-Ok
returns-in-Ok c =
    let s = c.args.self.now in let x = c.args.code.now in let f = s.frames in let heap = s.heap.items in let output = s.output.items in
    let e = c.method_at-callee.result.now in
    let k = callee x c.args.limit c.args.n c.args.next f heap s.room output c.args.tables.now e c.requires.table c.method_at-callee.ensures c.requires.fine in
    let call = k.call in
    let types = c.as_slice-parameters.result.now in
    let same : types ≡ e.parameters = c.as_slice-parameters.ensures in
    let stored = ap (λ ts. stored_each ts call.arguments) same ∙ k.are_stored in
    let g = c.store_arguments.ensures call.arguments call.rest call.values call.stack_is stored in
    let f1 = c.store_arguments.new.self in let f2 = c.enter.new.self in let method = call.method in
    let stack = reverse call.values ++ call.rest in
    let locals : c.as_slice.result.now ≡ method.locals = c.as_slice.ensures ∙ k.locals in
    let count : length call.values ≡ length types = k.count ∙ ap length (sym same) in
    let h = c.in-Ok.ensures.entered call.values call.rest count (ap (λ (z : Frames). z.now.stack) g)
    ∙ ap (λ l. spec.entered c.args.n (call.values ++ zeros_of l) call.rest f2.now.floor f2.size f1) locals in
    let free : length (map frame_of f.below) + 1 < c.args.limit = omega (arith, length-map f.below frame_of, c.callers.ensures.all, ap (λ (z : Frames). length z.below) g) in
    let reach : f2.now.floor + method.max_stack ≤ f2.size = omega (arith, c.in-Ok.ensures.reaches, k.max_stack) in (
      call.leads ∙ enters x c.args.limit c.args.n f heap s.room output method call.values call.rest f1 f2 f2.now.floor f2.size stack (lt-ltb (length (map frame_of f.below) + 1) c.args.limit free) g h,
      room_entered x f f1 f2 c.args.n (call.values ++ zeros_of method.locals) call.rest stack method c.requires.room g call.is_method c.in-Ok.ensures.grows reach h,
    )
