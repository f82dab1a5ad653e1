use Rattle.std.proofs.Common.{◌≡◌, ◌+◌, ◌-◌, length, take, drop, sym, arith}
use Rattle.std.proofs.lemmas.Grind.{common_steps}
use Rattle.std.proofs.lemmas.List.{drop-map}
use Rattle.cc_words.proofs.read.words_behind.Goals as goal

pub returns-in-Some : goal.returns-in-Some
returns-in-Some c =
    let words = c.args.words.now in
    let at = c.in-Some.at in
    let whole : take (length words - (at + 1)) (drop (at + 1) words) ≡ drop (at + 1) words = grind (arith, common_steps) in
    rw (c.in-Some.is, whole) (sym (drop-map _ (at + 1) words))
