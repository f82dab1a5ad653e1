use Rattle.std.proofs.Common.{◌≡◌, ℕ, ◌+◌, ◌*◌, ◌≤◌, ◌<◌, ◌^◌, List, [], ◌∷◌, length, drop, get_or, None, arith}
use Rattle.std.proofs.lemmas.Grind.{common_steps}
use Rattle.std.proofs.lemmas.Bool.{cond-false, le-ltb}
use Rattle.std.proofs.lemmas.List.{at_drop_more}
use Rattle.cc_tree.specs.Digits.{number}
use Rattle.std.specs.Char.{digit_value}
use Rattle.std.specs.Str.Parse.{digits_value, digits_value_after}

pub scaled : (radix n : ℕ) → 1 ≤ radix → n ≤ n * radix
scaled radix n h = grind arith

-- more digits never make a number smaller
pub grows : (radix n : ℕ) (ds : List ℕ) → 1 ≤ radix → n ≤ digits_value_after radix n ds
grows radix n [] h = omega arith
grows radix n (d ∷ ds) h = omega (arith, scaled radix n h, grows radix (n * radix + digit_value d) ds h)

pub too_large : (radix n i : ℕ) (ds : List ℕ) → 1 ≤ radix → i < length ds → 2 ^ 64 ≤ n * radix + digit_value (get_or ds i 0)
    → digits_value_after radix n (drop i ds) ≡ digits_value radix ds → number radix ds ≡ None
too_large radix n i ds h l big e =
    let turn = at_drop_more (digits_value_after radix n) ds i 0 l in
    let grown = grows radix (n * radix + digit_value (get_or ds i 0)) (drop (i + 1) ds) h in
    let large : 2 ^ 64 ≤ digits_value radix ds = grind (arith, common_steps) in
    cond-false _ _ _ (le-ltb _ _ large)
