use Rattle.std.proofs.Common.{length, sym, ap, ◌∙◌, arith}
use Rattle.std.specs.Prelude.{reverse}
use Rattle.std.proofs.lemmas.List.{length-reverse}
use Rattle.cc_machine_next.specs.Frames.{Frames}
use Rattle.cc_machine_next.proofs.Slices.{below_length}
use Rattle.cc_machine_next.proofs.frames.FrameStack.callers.Goals as goal

pub returns-clause-all : goal.returns-clause-all
returns-clause-all c =
    let m = c.self.inside in
    c.len.ensures ∙ m.saved.ok.0 ∙ sym (length-reverse m.saved.items) ∙ sym (below_length m.cells.items (reverse m.saved.items) m.base) ∙ ap (λ (f : Frames). length f.below) c.self.view_is

pub returns-clause-few : goal.returns-clause-few
returns-clause-few c = let m = c.self.inside in omega (arith, m.saved.ok.1, m.saved.small)
