-- Where branches lead (ECMA-335, III.1.7.2): to an instruction of the same function.
--   offset_of i           where an instruction leads besides to the next one, counted from that
--   BeginsAt code at p    an instruction of the list begins at the place p, where the first begins at an offset
--   AllLand P code at     each instruction that leads elsewhere leads to a place of which P holds
--   BranchesLand          each branch and exit of a function leads to an instruction of the function
use Rattle.std.specs.Prelude.{◌≡◌, ◌⊎◌, ℕ, ◌+◌, ◌<◌, ◌^◌, ℤ, pos, ◌+ℤ◌, List, [], ◌∷◌, Option, Some, None, ⊤}
use Rattle.cc_cil.specs.declared.instruction.Instruction.{Instruction}
use Rattle.cc_cil.specs.declared.instruction.Instruction.TheVariants as the
use Rattle.cc_core.specs.declared.types.ClassInfo.{ClassInfo}
use Rattle.cc_region.specs.declared.tree.RegionFunction.{RegionFunction}
use Rattle.cc_region.specs.Typed.{IsFunction}
use Rattle.cc_code.specs.declared.tokens.Tokens.{Tokens}
use Rattle.cc_code.specs.Functions.{function_instructions, function_size}
use Rattle.cc_code.specs.Instructions.{width}

abbrev pub offset_of : Instruction → Option ℤ
offset_of (the.BranchShort n) = Some n
offset_of (the.BranchFalseShort n) = Some n
offset_of (the.BranchTrueShort n) = Some n
offset_of (the.Branch n) = Some n
offset_of (the.BranchFalse n) = Some n
offset_of (the.BranchTrue n) = Some n
offset_of (the.BranchEqual n) = Some n
offset_of (the.BranchGreaterEqual n) = Some n
offset_of (the.BranchGreater n) = Some n
offset_of (the.BranchLessEqual n) = Some n
offset_of (the.BranchLess n) = Some n
offset_of (the.BranchNotEqual n) = Some n
offset_of (the.BranchGreaterEqualUnsigned n) = Some n
offset_of (the.BranchGreaterUnsigned n) = Some n
offset_of (the.BranchLessEqualUnsigned n) = Some n
offset_of (the.BranchLessUnsigned n) = Some n
offset_of (the.Leave n) = Some n
offset_of (the.LeaveShort n) = Some n
offset_of _ = None

abbrev pub BeginsAt : List Instruction → ℕ → ℕ → Type 0
BeginsAt [] at place = ⊥
BeginsAt (i ∷ code) at place = (place ≡ at) ⊎ BeginsAt code (at + width i) place

abbrev pub Lands : (ℕ → Type 0) → ℕ → Option ℤ → Type 0
Lands IsPlace next None = ⊤
Lands IsPlace next (Some offset) = (place : ℕ) × (pos next +ℤ offset ≡ pos place) × IsPlace place

abbrev pub AllLand : (ℕ → Type 0) → List Instruction → ℕ → Type 0
AllLand IsPlace [] at = ⊤
AllLand IsPlace (i ∷ code) at = Lands IsPlace (at + width i) (offset_of i) × AllLand IsPlace code (at + width i)

-- in a function that is well typed and fit, whatever its tokens and however many of its variables are parameters
abbrev pub BranchesLand : Type 0
BranchesLand =
    (classes : List ClassInfo) (tokens : Tokens) (parameters : ℕ) (f : RegionFunction) → IsFunction classes f → function_size f < 2 ^ 31
    → AllLand (BeginsAt (function_instructions tokens parameters f) 0) (function_instructions tokens parameters f) 0
