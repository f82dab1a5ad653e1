-- The cells of the heap that strings and arrays of strings take.
use Rattle.std.specs.Prelude.{ℕ, ◌+◌, ◌/◌, Bool, false, ◌||◌, List, [], ◌∷◌, length, nat_lt}

-- the cells of a string: two, and one for each four units or part of four
abbrev pub string_cells : List ℕ → ℕ
string_cells text = 2 + (length text + 3) / 4

abbrev pub strings_cells : List (List ℕ) → ℕ
strings_cells [] = 0
strings_cells (text ∷ texts) = string_cells text + strings_cells texts

-- the cells of the array of a program's arguments, two and one for each element, and those of its strings
abbrev pub arguments_cells : List (List ℕ) → ℕ
arguments_cells arguments = 2 + length arguments + strings_cells arguments

-- a string has over 2,147,483,647 units
abbrev pub any_long : List (List ℕ) → Bool
any_long [] = false
any_long (text ∷ texts) = nat_lt 2147483647 (length text) || any_long texts

-- the arguments take more than these cells, or one of them is longer than a string can be
abbrev pub arguments_pass : ℕ → List (List ℕ) → Bool
arguments_pass cells arguments = any_long arguments || nat_lt cells (arguments_cells arguments)
