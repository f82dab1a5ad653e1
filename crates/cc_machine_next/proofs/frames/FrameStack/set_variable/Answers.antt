use Rattle.std.proofs.Common.{◌+◌, ◌<◌, length, sym, ap, subst, ◌∙◌, arith}
use Rattle.std.specs.Prelude.{reverse}
use Rattle.cc_machine_next.specs.Cells.{value_of}
use Rattle.cc_machine_next.specs.Frames.{Frames, with_variable, values}
use Rattle.cc_machine_next.proofs.Slices.{store_shows, values_length}
use Rattle.cc_machine_next.proofs.frames.FrameStack.set_variable.Goals as goal

pub returns : goal.returns
returns c =
    let m = c.self.inside in let h = c.self.invariant in
    let there : c.args.place < length (values m.cells.items m.base m.floor) = subst (λ (f : Frames). c.args.place < length f.now.variables) (sym c.self.view_is) c.requires in
    let low : m.base + c.args.place < m.floor = omega (arith, there, values_length m.cells.items m.base m.floor h.variables (omega (arith, h.stack, h.within)), h.variables) in
    store_shows m.cells.items (reverse m.saved.items) m.method m.at m.base m.floor m.top c.args.place c.args.cell low h.waiting ∙ ap (with_variable c.args.place (value_of c.args.cell)) c.self.view_is
