use Rattle.std.proofs.Common.{sym, ap, ◌∙◌}
use Rattle.std.specs.Prelude.{reverse}
use Rattle.cc_verify.proofs.Turned.{turned_back}
use Rattle.cc_verify.proofs.stack.StackTypes.is_same.Goals as goal

pub returns : goal.returns
returns c =
    let a = c.as_slice.ensures.value in
    let b = c.as_slice-2.ensures.value in
    let v = c.self.view_is in
    let w = c.other.view_is in
    (λ t. sym v ∙ ap reverse (sym a ∙ c.are_same.ensures.0 t ∙ b) ∙ w, λ e. c.are_same.ensures.1 (a ∙ turned_back _ _ (v ∙ e ∙ sym w) ∙ sym b))
