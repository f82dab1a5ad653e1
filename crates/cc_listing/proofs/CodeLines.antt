-- The lines of code: each offset has one.
use Rattle.std.proofs.Common.{◌≡◌, ℕ, ◌+◌, ◌-◌, ◌/◌, ◌%◌, ◌<◌, ◌≤◌, Bool, true, false, cond, ltb, List, [], ◌∷◌, ◌++◌, length, drop, refl, sym, ap, subst, arith, append-nil, ◌∙◌, length-append, length-drop}
use Rattle.cc_cil.specs.declared.instruction.Instruction.{Instruction}
use Rattle.cc_cil.specs.Instructions.{IsInRange, OneSpelling, operand, spelling, opcode, opcode_bytes, operand_bytes}
use Rattle.cc_listing.specs.Bodies.{GoesOn, ListsCode, ended, instruction, bytes, instruction_line, bytes_line}

opcode_some : (code : ℕ) → 0 < length (opcode_bytes code)
opcode_some code = elim (ltb code 0x100) as (λ t. 0 < length (cond t (code ∷ []) (code / 0x100 ∷ code % 0x100 ∷ []))) [ true ↦ omega arith | false ↦ omega arith ]

spelling_some : (i : Instruction) → 0 < length (spelling i)
spelling_some i = omega (arith, length-append (opcode_bytes (opcode i)) (operand_bytes (operand i)), opcode_some (opcode i))

-- an instruction at an offset leaves the code longer than that offset
pub within_code : (i : Instruction) (code rest : List ℕ) (at : ℕ) → drop at code ≡ spelling i ++ rest → (at < at + length (spelling i)) × (at + length (spelling i) ≤ length code)
within_code i code rest at same =
    let some = spelling_some i in
    let size : length code - at ≡ length (spelling i) + length rest = sym (length-drop at code) ∙ ap (λ (l : List ℕ). length l) same ∙ length-append (spelling i) rest in
    (omega (arith, some), omega (arith, size, some))

-- what a listing of code at an offset can be
data Form (code : List ℕ) (at : ℕ) (text : List ℕ) : Type 0 where
  at_end : at ≡ length code → text ≡ [] → Form code at text
  at_instruction : (i : Instruction) (rest more : List ℕ) → IsInRange (operand i) → drop at code ≡ spelling i ++ rest → ListsCode code (at + length (spelling i)) more
      → text ≡ instruction_line at i (at + length (spelling i)) ++ more → Form code at text
  at_bytes : at < length code → ((i : Instruction) (rest : List ℕ) → IsInRange (operand i) → drop at code ≡ spelling i ++ rest → ⊥) → text ≡ bytes_line at (drop at code) → Form code at text

form : {code : List ℕ} {at : ℕ} {text : List ℕ} → ListsCode code at text → Form code at text
form ended = at_end refl refl
form (instruction i rest range same lists) = at_instruction i rest _ range same lists refl
form (bytes short none) = at_bytes short none refl

none_at_end : {P : Type 0} (code : List ℕ) (at : ℕ) (i : Instruction) (rest : List ℕ) → at ≡ length code → drop at code ≡ spelling i ++ rest → P
none_at_end code at i rest end same = let within = within_code i code rest at same in absurd (omega (arith, within.0, within.1))

only_end : (code more : List ℕ) (at : ℕ) → at ≡ length code → Form code at more → more ≡ []
only_end code more at end (at_end _ nothing) = nothing
only_end code more at end (at_instruction i rest _ _ same _ _) = none_at_end code at i rest end same
only_end code more at end (at_bytes short _ _) = absurd (omega (arith, short, end))

pub one_instruction : (code rest : List ℕ) (at : ℕ) (i : Instruction) → IsInRange (operand i) → drop at code ≡ spelling i ++ rest → GoesOn code at (instruction_line at i (at + length (spelling i))) (at + length (spelling i))
one_instruction code rest at i range same more lists = instruction i rest range same lists

pub last_bytes : (code : List ℕ) (at : ℕ) → at < length code → ((i : Instruction) (rest : List ℕ) → IsInRange (operand i) → drop at code ≡ spelling i ++ rest → ⊥) → GoesOn code at (bytes_line at (drop at code)) (length code)
last_bytes code at short none more lists =
    let nothing = only_end code more (length code) refl (form lists) in
    subst (λ (l : List ℕ). ListsCode code at l) (sym (append-nil (bytes_line at (drop at code))) ∙ ap (λ (l : List ℕ). bytes_line at (drop at code) ++ l) (sym nothing)) (bytes short none)

-- code has one listing

after_end : (code other : List ℕ) → ListsCode code (length code) other → [] ≡ other
after_end code other second = sym (only_end code other (length code) refl (form second))

after_instruction : (code rest text other : List ℕ) (at : ℕ) (i : Instruction) → OneSpelling → IsInRange (operand i) → drop at code ≡ spelling i ++ rest
    → ((more : List ℕ) → ListsCode code (at + length (spelling i)) more → text ≡ more) → Form code at other → instruction_line at i (at + length (spelling i)) ++ text ≡ other
after_instruction code rest text other at i one range same further (at_end end nothing) = none_at_end code at i rest end same
after_instruction code rest text other at i one range same further (at_instruction j rest' more range' same' lists line) =
    let equal = one i j rest rest' range range' (sym same ∙ same') in
    let lists' = subst (λ (k : Instruction). ListsCode code (at + length (spelling k)) more) (sym equal.0) lists in
    ap (λ (l : List ℕ). instruction_line at i (at + length (spelling i)) ++ l) (further more lists')
    ∙ ap (λ (k : Instruction). instruction_line at k (at + length (spelling k)) ++ more) equal.0 ∙ sym line
after_instruction code rest text other at i one range same further (at_bytes short none line) = absurd (none i rest range same)

after_bytes : (code other : List ℕ) (at : ℕ) → at < length code → ((i : Instruction) (rest : List ℕ) → IsInRange (operand i) → drop at code ≡ spelling i ++ rest → ⊥)
    → Form code at other → bytes_line at (drop at code) ≡ other
after_bytes code other at short none (at_end end nothing) = absurd (omega (arith, short, end))
after_bytes code other at short none (at_instruction j rest more range same lists line) = absurd (none j rest range same)
after_bytes code other at short none (at_bytes short' none' line) = sym line

same_listing : {code : List ℕ} {at : ℕ} {text : List ℕ} → OneSpelling → ListsCode code at text → (other : List ℕ) → ListsCode code at other → text ≡ other
same_listing {code = code} one ended other second = after_end code other second
same_listing {code = code} one (instruction i rest {at = at} {text = text} range same lists) other second =
    after_instruction code rest text other at i one range same (λ more further. same_listing one lists more further) (form second)
same_listing {code = code} one (bytes {at = at} short none) other second = after_bytes code other at short none (form second)

pub one_code : OneSpelling → (code : List ℕ) (at : ℕ) (text other : List ℕ) → ListsCode code at text → ListsCode code at other → text ≡ other
one_code one code at text other first second = same_listing one first other second
