use Rattle.std.proofs.Common.{◌<◌, sym, ap, ◌∙◌}
use Rattle.std.specs.Prelude.{reverse}
use Rattle.cc_machine_next.specs.Frames.{Frames}
use Rattle.cc_machine_next.proofs.Slices.{pop_shows, has_cell}
use Rattle.cc_machine_next.proofs.frames.FrameStack.pop.Goals as goal

pub returns : goal.returns
returns c =
    let m = c.self.inside in let h = c.self.invariant in
    let some : m.floor < m.top = has_cell m.cells.items m.floor m.top c.requires.0 c.requires.1 h.stack h.within (ap (λ (f : Frames). f.now.stack) c.self.view_is ∙ c.requires.2) in
    sym c.self.view_is ∙ pop_shows m.cells.items (reverse m.saved.items) m.method m.at m.base m.floor m.top c.index.result.now c.index.result.now some h.within c.index.ensures
