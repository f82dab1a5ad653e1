use Rattle.std.proofs.Common.{◌≡◌, ◌+◌, ◌-◌, ◌≤◌, ◌++◌, length, sym, ap, ◌∙◌, arith}
use Rattle.std.specs.Prelude.{reverse}
use Rattle.cc_machine_next.specs.Frames.{Frames, with_stack, values}
use Rattle.cc_execution.specs.Fundamental.{stored_each}
use Rattle.cc_machine_next.proofs.Slices.{stored_shows, arguments_are, stack_length}
use Rattle.cc_machine_next.proofs.Storing.{stored_length}
use Rattle.cc_machine_next.proofs.frames.FrameStack.store_arguments.Goals as goal

pub store_each-requires-clause-there : goal.store_each-requires-clause-there
store_each-requires-clause-there c =
    let m = c.self.inside in let h = c.self.invariant in let r = c.requires.there in
    let xs = m.cells.items in let types = c.args.types.now in let n = length types in
    let seen = ap (λ (f : Frames). f.now.stack) c.self.view_is in
    let deep : m.floor + n ≤ m.top = omega (arith, c.requires.count, ap length seen, stack_length xs m.floor m.top h.stack h.within, h.stack) in
    let parts = arguments_are xs m.floor m.top n r.0 r.1 deep h.within (stored_length types r.0 r.2 r.4) (seen ∙ r.3) in
    let end : m.top - n + n ≡ m.top = omega (arith, deep) in
    (r.2, ap (λ k. stored_each types (values xs (m.top - n) k)) end ∙ ap (stored_each types) parts.0 ∙ r.4)

pub returns : goal.returns
returns c vs rest ws e s =
    let m = c.self.inside in let h = c.self.invariant in
    let xs = m.cells.items in let ys = c.store_each.new.cells.items in let types = c.args.types.now in let n = length types in
    let seen = ap (λ (f : Frames). f.now.stack) c.self.view_is in
    let deep : m.floor + n ≤ m.top = omega (arith, c.requires.count, ap length seen, stack_length xs m.floor m.top h.stack h.within, h.stack) in
    let size = stored_length types vs ws s in
    let parts = arguments_are xs m.floor m.top n vs rest deep h.within size (seen ∙ e) in
    let end : m.top - n + n ≡ m.top = omega (arith, deep) in
    let new = c.store_each.ensures.stored ws (ap (λ k. stored_each types (values xs (m.top - n) k)) end ∙ ap (stored_each types) parts.0 ∙ s) in
    stored_shows xs ys (reverse m.saved.items) m.method m.at m.base m.floor m.top n vs ws rest h.variables deep h.within h.waiting c.store_each.ensures.size c.store_each.ensures.kept
    (ap (λ k. values ys (m.top - n) k) (sym end) ∙ new) size (seen ∙ e)
    ∙ ap (with_stack (reverse ws ++ rest)) c.self.view_is
