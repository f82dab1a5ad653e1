use Rattle.std.proofs.Common.{◌≡◌, ◌∙◌, ap, arith, cond, ◌++◌, ◌∷◌, []}
use Rattle.std.specs.Str.{bytes_eq}
use Rattle.cc_names.specs.Index.{numbers_under}
use Rattle.cc_names.proofs.Keyed.{next_place}
use Rattle.cc_names.proofs.keys.numbers_of.Goals as goal

pub loop-at-preserved : goal.loop-at-preserved
loop-at-preserved c = λ key.
    next_place c.args.keys.now c.loop-at.at c.index-keys-at.result c.as_slice.result.now key (numbers_under c.loop-at.numbers key) (numbers_under c.add_number.new.numbers key)
    (omega arith) c.index-keys-at.is c.as_slice.ensures (c.loop-at.invariant key)
    (c.in_ok-add_number.ensures key ∙ ap (λ n. numbers_under c.loop-at.numbers key ++ cond (bytes_eq c.as_slice.result.now key) (n ∷ []) []) c.in_ok-number.ensures)
