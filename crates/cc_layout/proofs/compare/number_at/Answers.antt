use Rattle.std.proofs.Common.{◌≡◌, take, length, length-take, ◌∙◌, arith}
use Rattle.cc_layout.proofs.Numbers.{little_from-value_of, AreBytes-each, AreBytes-take, value_of-below}
use Rattle.cc_layout.proofs.compare.number_at.Goals as goal

pub returns-clause-value : goal.returns-clause-value
returns-clause-value c = c.read_uint.ensures ∙ little_from-value_of _ _ c.requires.room

pub returns-clause-fits : goal.returns-clause-fits
returns-clause-fits c =
    let below = value_of-below (take c.args.width c.args.bytes.now) (AreBytes-take c.args.width _ (AreBytes-each _ (λ i. omega (arith, c.type_inv.bytes i)))) in
    let long : length (take c.args.width c.args.bytes.now) ≡ c.args.width = omega (arith, length-take c.args.width c.args.bytes.now, c.requires.room) in
    rw (c.read_uint.ensures, little_from-value_of _ _ c.requires.room) (rw long at below)
