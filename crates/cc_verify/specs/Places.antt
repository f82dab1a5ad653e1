-- The instructions of a method's code (ECMA-335, III.1.2).
--   Begins code at i             the instruction begins at the offset
--   Decodes code at places end   the instructions from an offset on, one after another, and the first offset at which none begins
--   starts_at places at          an instruction of the list begins at the offset
use Rattle.std.specs.Prelude.{◌≡◌, ◌==◌, ◌||◌, ◌+◌, ℕ, Bool, false, List, [], ◌∷◌, ◌++◌, length, drop}
use Rattle.cc_cil.specs.declared.instruction.Instruction.{Instruction}
use Rattle.cc_cil.specs.Instructions.{spelling, operand, IsInRange}
use Rattle.cc_verify.specs.declared.places.Place.{Place}

abbrev pub Begins : List ℕ → ℕ → Instruction → Type 0
Begins code at i = (rest : List ℕ) × (drop at code ≡ spelling i ++ rest) × IsInRange (operand i)

abbrev pub BeginsNowhere : List ℕ → ℕ → Type 0
BeginsNowhere code at = (i : Instruction) → Begins code at i → ⊥

pub data Decodes (code : List ℕ) : ℕ → List Place → ℕ → Type 0 where
  stops : {at : ℕ} → BeginsNowhere code at → Decodes code at [] at
  goes : {at end : ℕ} {places : List Place} (i : Instruction) → Begins code at i → Decodes code (at + length (spelling i)) places end
      → Decodes code at (record { at = at; instruction = i; next = at + length (spelling i) } ∷ places) end

abbrev pub starts_at : List Place → ℕ → Bool
starts_at [] at = false
starts_at (p ∷ places) at = p.at == at || starts_at places at
