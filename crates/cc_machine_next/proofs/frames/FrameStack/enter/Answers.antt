use Rattle.std.proofs.Common.{◌≡◌, ◌+◌, ◌-◌, ◌≤◌, [], ◌∷◌, ◌++◌, length, sym, ap, ◌∙◌, arith, take, refl}
use Rattle.std.specs.Prelude.{reverse}
use Rattle.cc_machine_next.specs.Frames.{Frames}
use Rattle.std.proofs.lemmas.List.{reverse-append, take-take}
use Rattle.cc_execution.specs.Step.{zeros_of}
use Rattle.cc_machine_next.specs.Frames.{entered, frames_from}
use Rattle.cc_machine_next.proofs.Slices.{enter_shows, stack_length}
use Rattle.cc_machine_next.proofs.frames.FrameStack.enter.Goals as goal

pub returns-clause-entered : goal.returns-clause-entered
returns-clause-entered c vs rest count e =
    let m = c.self.inside in let h = c.self.invariant in
    let xs = m.cells.items in let ys = c.reserve.new.cells.items in let zs = c.clear.new.cells.items in
    let types = c.args.locals.now in let n = c.args.arguments in let floor = c.in-Some.floor in
    let seen = ap (λ (f : Frames). f.now.stack) c.self.view_is in
    let deep : m.floor + n ≤ m.top = omega (arith, c.requires, ap length seen, stack_length xs m.floor m.top h.stack h.within, h.stack) in
    let grown : floor ≡ m.top + length types = omega (arith, c.in-Some.ensures) in
    let kept : take m.top zs ≡ take m.top xs = c.clear.ensures.kept ∙ sym (take-take m.top (length xs) ys h.within) ∙ ap (take m.top) c.reserve.ensures.kept in
    let turned = ap reverse c.in_ok-push.ensures.items ∙ reverse-append m.saved.items (record { method = m.method; at = m.at; base = m.base; floor = m.floor } ∷ []) in
    ap (λ k. frames_from zs (reverse c.push.new.self.items) c.args.method 0 (m.top - n) k k) grown
    ∙ ap (λ l. frames_from zs l c.args.method 0 (m.top - n) (m.top + length types) (m.top + length types)) turned
    ∙ enter_shows xs zs (reverse m.saved.items) m.method m.at m.base m.floor m.top n types c.args.method vs rest (length zs) h.variables deep h.within refl h.waiting kept c.clear.ensures.zero count (seen ∙ e)
    ∙ ap (λ k. entered c.args.method (vs ++ zeros_of types) rest k (length zs) (frames_from xs (reverse m.saved.items) m.method m.at m.base m.floor m.top)) (sym grown)
    ∙ ap (entered c.args.method (vs ++ zeros_of types) rest floor (length zs)) c.self.view_is
