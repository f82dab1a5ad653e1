use Rattle.std.proofs.Common.{◌∷◌, ap, ◌∙◌}
use Rattle.std.specs.Prelude.{reverse}
use Rattle.cc_machine_next.specs.Cells.{value_of}
use Rattle.cc_machine_next.specs.Frames.{Frames, with_stack}
use Rattle.cc_machine_next.proofs.Slices.{replace_shows}
use Rattle.cc_machine_next.proofs.frames.FrameStack.replace.Goals as goal

pub returns : goal.returns
returns c v rest e =
    let m = c.self.inside in let h = c.self.invariant in
    replace_shows m.cells.items (reverse m.saved.items) m.method m.at m.base m.floor m.top c.args.cell v rest h.variables h.stack h.within h.waiting (ap (λ (f : Frames). f.now.stack) c.self.view_is ∙ e)
    ∙ ap (with_stack (value_of c.args.cell ∷ rest)) c.self.view_is
