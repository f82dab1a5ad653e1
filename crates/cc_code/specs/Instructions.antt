-- Code as a list of instructions, and the places in it, counted in bytes (ECMA-335, III.1.2 and III.1.7.2).
--   width i, bytes code    how many bytes an instruction takes, and how many the instructions of a list
--   ahead n, back n        the operand of a branch over so many bytes, and of one back over so many; both count from the next instruction on
--   distance from to       that of a branch whose next instruction stands at the first offset, to the second one
--   branches ..            one of two lists of instructions, by a condition
use Rattle.std.specs.Prelude.{ℕ, ℤ, pos, ◌-ℤ◌, ◌+◌, ◌-◌, ◌%◌, ◌^◌, List, [], ◌∷◌, ◌++◌, length}
use Rattle.std.specs.Int.{w32, cast_signed}
use Rattle.cc_cil.specs.declared.instruction.Instruction.{Instruction}
use Rattle.cc_cil.specs.declared.instruction.Instruction.TheVariants as the
use Rattle.cc_cil.specs.Instructions.{spelling}

abbrev pub width : Instruction → ℕ
width i = length (spelling i)

abbrev pub bytes : List Instruction → ℕ
bytes [] = 0
bytes (i ∷ code) = width i + bytes code

abbrev pub ahead : ℕ → ℤ
ahead n = pos n

abbrev pub back : ℕ → ℤ
back n = pos 0 -ℤ pos n

-- in four bytes (I.12.1.1)
abbrev pub distance : ℕ → ℕ → ℤ
distance from to = cast_signed w32 ((to + (2 ^ 32 - from)) % 2 ^ 32)

-- Behind a condition: where it holds the first list is executed, and else the second, which stands before it. Both have the sizes that are given.
abbrev pub branches : ℕ → List Instruction → ℕ → List Instruction → List Instruction
branches first_size first second_size second = the.BranchTrue (ahead (second_size + 5)) ∷ (second ++ (the.Branch (ahead first_size) ∷ first))
