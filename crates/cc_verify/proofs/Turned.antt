-- A list turned round.
use Rattle.std.proofs.Common.{◌≡◌, List, sym, ap, ◌∙◌}
use Rattle.std.specs.Prelude.{reverse}
use Rattle.std.proofs.lemmas.List.{reverse-append, length-reverse, reverse-reverse}

pub ruleset turned = (reverse-append, length-reverse)

-- two lists that are one when turned round are one
pub turned_back : {A : Type 0} (a b : List A) → reverse a ≡ reverse b → a ≡ b
turned_back a b e = sym (reverse-reverse a) ∙ ap reverse e ∙ reverse-reverse b
