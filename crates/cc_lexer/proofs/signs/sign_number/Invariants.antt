use Rattle.std.proofs.Common.{◌≡◌, ◌+◌, length, map}
use Rattle.std.specs.List.{position_or_len}
use Rattle.std.specs.Str.{bytes_eq}
use Rattle.cc_tree.specs.Signs.{signs}
use Rattle.cc_lexer.proofs.signs.sign_number.Given as goal

-- the place of the sign in the rest is its place in the table
abbrev pub invariant-signs : goal.invariant-signs
invariant-signs l =
    (l.number + position_or_len (λ sign. bytes_eq sign l.bytes) (map (λ sign. sign.now) l.rest) ≡ position_or_len (λ sign. bytes_eq sign l.bytes) signs)
    × (l.number + length l.rest ≡ 47)

abbrev pub decreases-signs : goal.decreases-signs
decreases-signs l = length l.rest
