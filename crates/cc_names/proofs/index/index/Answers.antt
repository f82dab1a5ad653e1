use Rattle.std.proofs.Common.{◌≡◌, ◌∙◌, ap, arith, cond, ◌++◌, ◌∷◌, []}
use Rattle.std.specs.Str.{bytes_eq}
use Rattle.cc_names.specs.Index.{numbers_under}
use Rattle.cc_names.proofs.Indexed.{next_named}
use Rattle.cc_names.proofs.index.index.Goals as goal

pub loop-at-preserved : goal.loop-at-preserved
loop-at-preserved c = λ name.
    next_named c.args.items.now c.loop-at.at c.index-items-at.result c.as_slice.result.now name (numbers_under c.loop-at.numbers name) (numbers_under c.add_number.new.numbers name)
    (omega arith) c.index-items-at.is c.as_slice.ensures (c.loop-at.invariant name)
    (c.in_ok-add_number.ensures name ∙ ap (λ n. numbers_under c.loop-at.numbers name ++ cond (bytes_eq c.as_slice.result.now name) (n ∷ []) []) c.in_ok-number.ensures)
