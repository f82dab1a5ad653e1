-- The instructions of code, one after another.
use Rattle.std.proofs.Common.{◌≡◌, ◌≤◌, ◌<◌, ◌+◌, ℕ, List, [], ◌∷◌, ◌++◌, length, sym, ap, subst, ◌∙◌, length-append, length-drop, append_assoc, append-nil, arith}
use Rattle.std.specs.Prelude.{Bool, true, false, ◌/◌, ◌%◌, ◌-◌, nat_lt, if◌then◌else◌}
use Rattle.std.specs.List.{AllByRecursion}
use Rattle.cc_cil.specs.declared.instruction.Instruction.{Instruction}
use Rattle.cc_cil.specs.Instructions.{spelling, opcode}
use Rattle.cc_verify.specs.declared.places.Place.{Place}
use Rattle.cc_verify.specs.Places.{Begins, BeginsNowhere, Decodes, stops, goes}

opcode_some : (code : ℕ) (b : Bool) → 0 < length (if b then code ∷ [] else code / 0x100 ∷ code % 0x100 ∷ [])
opcode_some code true = omega arith
opcode_some code false = omega arith

spelling_some : (i : Instruction) → 0 < length (spelling i)
spelling_some i = let some = opcode_some (opcode i) (nat_lt (opcode i) 0x100) in rw length-append (omega (arith, some))

-- an instruction ends within the code
pub begins_within : (code : List ℕ) (at : ℕ) (i : Instruction) → Begins code at i → at ≤ length code → at + length (spelling i) ≤ length code
begins_within code at i (rest, e, p) h =
    let size : length code - at ≡ length (spelling i) + length rest = sym (length-drop at code) ∙ ap length e ∙ length-append (spelling i) rest in
    omega (arith, size, h, spelling_some i)

-- it begins within the code
pub begins_before : (code : List ℕ) (at : ℕ) (i : Instruction) → Begins code at i → at < length code
begins_before code at i (rest, e, p) =
    let size : length code - at ≡ length (spelling i) + length rest = sym (length-drop at code) ∙ ap length e ∙ length-append (spelling i) rest in
    omega (arith, size, spelling_some i)

-- nothing begins at the end
pub nowhere_past : (code : List ℕ) (at : ℕ) → length code ≤ at → BeginsNowhere code at
nowhere_past code at h i (rest, e, p) =
    let size : length code - at ≡ length (spelling i) + length rest = sym (length-drop at code) ∙ ap length e ∙ length-append (spelling i) rest in
    absurd (omega (arith, size, h, spelling_some i))

-- one instruction further on
pub decoding_on : (code : List ℕ) (at next : ℕ) (i : Instruction) (old new : List Place) → new ≡ old ++ record { at = at; instruction = i; next = next } ∷ [] → Begins code at i → next ≡ at + length (spelling i)
    → ((more : List Place) (end : ℕ) → Decodes code at more end → Decodes code 0 (old ++ more) end)
    → (more : List Place) (end : ℕ) → Decodes code next more end → Decodes code 0 (new ++ more) end
decoding_on code at next i old new e begins n leads more end d =
    let placed : ℕ → List Place = λ x. record { at = at; instruction = i; next = x } ∷ [] in
    let from : Decodes code (at + length (spelling i)) more end = subst (λ x. Decodes code x more end) n d in
    let all : Decodes code 0 (old ++ (placed (at + length (spelling i)) ++ more)) end = leads (placed (at + length (spelling i)) ++ more) end (goes i begins from) in
    let here : Decodes code 0 (old ++ (placed next ++ more)) end = subst (λ x. Decodes code 0 (old ++ (placed x ++ more)) end) (sym n) all in
    subst (λ l. Decodes code 0 l end) (sym (ap (λ l. l ++ more) e ∙ append_assoc old (placed next) more)) here

pub decoding_ends : (code : List ℕ) (at : ℕ) (places : List Place) → BeginsNowhere code at → ((more : List Place) (end : ℕ) → Decodes code at more end → Decodes code 0 (places ++ more) end) → Decodes code 0 places at
decoding_ends code at places none leads = subst (λ l. Decodes code 0 l at) (append-nil places) (leads [] at (stops none))

-- each instruction begins within the code
pub decoded_within : {code : List ℕ} {at end : ℕ} {places : List Place} → Decodes code at places end → AllByRecursion (λ (p : Place). p.at < length code) places
decoded_within (stops none) = tt
decoded_within {code} {at} (goes i begins more) = (begins_before code at i begins, decoded_within more)
