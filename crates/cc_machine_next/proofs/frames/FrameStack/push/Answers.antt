use Rattle.std.proofs.Common.{◌+◌, ◌<◌, length, sym, ap, subst, ◌∙◌, arith}
use Rattle.std.specs.Prelude.{reverse}
use Rattle.cc_machine_next.specs.Cells.{value_of}
use Rattle.cc_machine_next.specs.Frames.{Frames, pushed, values}
use Rattle.cc_machine_next.proofs.Slices.{push_shows, stack_length}
use Rattle.cc_machine_next.proofs.frames.FrameStack.push.Goals as goal

pub returns : goal.returns
returns c =
    let m = c.self.inside in let h = c.self.invariant in
    let need : m.floor + length (reverse (values m.cells.items m.floor m.top)) < length m.cells.items = subst (λ (f : Frames). f.now.floor + length f.now.stack < f.size) (sym c.self.view_is) c.requires in
    let room : m.top < length m.cells.items = omega (arith, need, stack_length m.cells.items m.floor m.top h.stack h.within, h.stack) in
    push_shows m.cells.items (reverse m.saved.items) m.method m.at m.base m.floor m.top c.args.cell h.variables h.stack room h.waiting ∙ ap (pushed (value_of c.args.cell)) c.self.view_is
