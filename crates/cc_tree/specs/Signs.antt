-- The signs, of which the longest at a place is taken (ECMA-372, 9.1.4; ISO/IEC 14882:2003, 2.12).
use Rattle.std.specs.Prelude.{ℕ, List, map, position, Option}
use Rattle.std.specs.Str.{bytes_eq}
use Rattle.cc_tree.specs.declared.sign.TheConstants.{SIGNS}

abbrev pub signs : List (List ℕ)
signs = map (λ sign. sign.now) SIGNS

-- the number of the sign that these bytes spell
abbrev pub sign_number : List ℕ → Option ℕ
sign_number bytes = position (λ sign. bytes_eq sign bytes) signs
