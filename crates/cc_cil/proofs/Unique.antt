-- One spelling is of one instruction, and no instruction's spelling begins another's.
use Rattle.std.proofs.Common.{◌≡◌, ℕ, ◌/◌, ◌%◌, ◌<◌, ◌≤◌, Bool, true, not, cond, ltb, eqb, List, [], ◌∷◌, ◌++◌, ◌⊎◌, inl, inr, length, refl, sym, ap, ◌∙◌, append_assoc, length-append, arith}
use Rattle.std.proofs.lemmas.Bool.{lt-ltb, le-ltb, cases_eq, ne_eqb}
use Rattle.std.specs.Prelude.{ℤ, pos, FitsSigned}
use Rattle.std.specs.Int.{Width, w8, w32, w64, cast_signed, cast_unsigned}
use Rattle.std.proofs.lemmas.Int.{to_z-of_z}
use mir.ValLaws.{of_z_fits}
use Rattle.std.proofs.lemmas.Bool.Decides.{nat_tests}
use Rattle.std.specs.List.{AllByRecursion, list_any}
use Rattle.cc_layout.proofs.Numbers.{little_endian-one}
use Rattle.cc_cil.specs.Instructions.{row, opcode, operand, opcode_bytes, operand_bytes, spelling, opcodes, IsUnlisted, IsFront, BeginsNone, IsInRange}
use Rattle.cc_cil.specs.declared.instruction.Instruction.{Instruction}
use Rattle.cc_cil.specs.declared.instruction.Instruction.TheVariants as the
use Rattle.cc_cil.specs.declared.instruction.Operand.{Operand}
use Rattle.cc_cil.specs.declared.instruction.Operand.TheVariants.{Nothing, U8, I8, U16, I32, I64, Token}

-- ---- the table read backwards

abbrev natural : Operand → ℕ
natural Nothing = 0
natural (U8 n) = n
natural (I8 z) = 0
natural (U16 n) = n
natural (I32 z) = 0
natural (I64 z) = 0
natural (Token n) = n

abbrev integer : Operand → ℤ
integer Nothing = pos 0
integer (U8 n) = pos 0
integer (I8 z) = z
integer (U16 n) = pos 0
integer (I32 z) = z
integer (I64 z) = z
integer (Token n) = pos 0

abbrev Row : Type 0
Row = ℕ × (Operand → Instruction)

abbrev rows : List Row
rows =
    (0x00, λ o. the.Nop) ∷
    (0x02, λ o. the.LoadArgument0) ∷
    (0x03, λ o. the.LoadArgument1) ∷
    (0x04, λ o. the.LoadArgument2) ∷
    (0x05, λ o. the.LoadArgument3) ∷
    (0x0E, λ o. the.LoadArgumentShort (natural o)) ∷
    (0xFE09, λ o. the.LoadArgument (natural o)) ∷
    (0x06, λ o. the.LoadLocal0) ∷
    (0x07, λ o. the.LoadLocal1) ∷
    (0x08, λ o. the.LoadLocal2) ∷
    (0x09, λ o. the.LoadLocal3) ∷
    (0x11, λ o. the.LoadLocalShort (natural o)) ∷
    (0xFE0C, λ o. the.LoadLocal (natural o)) ∷
    (0x0A, λ o. the.StoreLocal0) ∷
    (0x0B, λ o. the.StoreLocal1) ∷
    (0x0C, λ o. the.StoreLocal2) ∷
    (0x0D, λ o. the.StoreLocal3) ∷
    (0x13, λ o. the.StoreLocalShort (natural o)) ∷
    (0xFE0E, λ o. the.StoreLocal (natural o)) ∷
    (0x0F, λ o. the.LoadArgumentAddressShort (natural o)) ∷
    (0xFE0A, λ o. the.LoadArgumentAddress (natural o)) ∷
    (0x12, λ o. the.LoadLocalAddressShort (natural o)) ∷
    (0xFE0D, λ o. the.LoadLocalAddress (natural o)) ∷
    (0x10, λ o. the.StoreArgumentShort (natural o)) ∷
    (0xFE0B, λ o. the.StoreArgument (natural o)) ∷
    (0x14, λ o. the.LoadNull) ∷
    (0x15, λ o. the.LoadIntMinus1) ∷
    (0x16, λ o. the.LoadInt0) ∷
    (0x17, λ o. the.LoadInt1) ∷
    (0x18, λ o. the.LoadInt2) ∷
    (0x19, λ o. the.LoadInt3) ∷
    (0x1A, λ o. the.LoadInt4) ∷
    (0x1B, λ o. the.LoadInt5) ∷
    (0x1C, λ o. the.LoadInt6) ∷
    (0x1D, λ o. the.LoadInt7) ∷
    (0x1E, λ o. the.LoadInt8) ∷
    (0x1F, λ o. the.LoadIntShort (integer o)) ∷
    (0x20, λ o. the.LoadInt (integer o)) ∷
    (0x21, λ o. the.LoadLong (integer o)) ∷
    (0x25, λ o. the.Duplicate) ∷
    (0x26, λ o. the.Pop) ∷
    (0x28, λ o. the.Call (natural o)) ∷
    (0x6F, λ o. the.CallVirtual (natural o)) ∷
    (0x73, λ o. the.NewObject (natural o)) ∷
    (0x2A, λ o. the.Return) ∷
    (0x2B, λ o. the.BranchShort (integer o)) ∷
    (0x2C, λ o. the.BranchFalseShort (integer o)) ∷
    (0x2D, λ o. the.BranchTrueShort (integer o)) ∷
    (0x38, λ o. the.Branch (integer o)) ∷
    (0x39, λ o. the.BranchFalse (integer o)) ∷
    (0x3A, λ o. the.BranchTrue (integer o)) ∷
    (0x3B, λ o. the.BranchEqual (integer o)) ∷
    (0x3C, λ o. the.BranchGreaterEqual (integer o)) ∷
    (0x3D, λ o. the.BranchGreater (integer o)) ∷
    (0x3E, λ o. the.BranchLessEqual (integer o)) ∷
    (0x3F, λ o. the.BranchLess (integer o)) ∷
    (0x40, λ o. the.BranchNotEqual (integer o)) ∷
    (0x41, λ o. the.BranchGreaterEqualUnsigned (integer o)) ∷
    (0x42, λ o. the.BranchGreaterUnsigned (integer o)) ∷
    (0x43, λ o. the.BranchLessEqualUnsigned (integer o)) ∷
    (0x44, λ o. the.BranchLessUnsigned (integer o)) ∷
    (0x58, λ o. the.Add) ∷
    (0x59, λ o. the.Subtract) ∷
    (0x5A, λ o. the.Multiply) ∷
    (0x5B, λ o. the.Divide) ∷
    (0x5C, λ o. the.DivideUnsigned) ∷
    (0x5D, λ o. the.Remainder) ∷
    (0x5E, λ o. the.RemainderUnsigned) ∷
    (0x5F, λ o. the.And) ∷
    (0x60, λ o. the.Or) ∷
    (0x61, λ o. the.Xor) ∷
    (0x62, λ o. the.ShiftLeft) ∷
    (0x63, λ o. the.ShiftRight) ∷
    (0x64, λ o. the.ShiftRightUnsigned) ∷
    (0x65, λ o. the.Negate) ∷
    (0x66, λ o. the.Not) ∷
    (0x67, λ o. the.ConvertI1) ∷
    (0x68, λ o. the.ConvertI2) ∷
    (0x69, λ o. the.ConvertI4) ∷
    (0x6A, λ o. the.ConvertI8) ∷
    (0x6D, λ o. the.ConvertU4) ∷
    (0x6E, λ o. the.ConvertU8) ∷
    (0xD1, λ o. the.ConvertU2) ∷
    (0xD2, λ o. the.ConvertU1) ∷
    (0x71, λ o. the.LoadObject (natural o)) ∷
    (0x81, λ o. the.StoreObject (natural o)) ∷
    (0xFE15, λ o. the.InitializeObject (natural o)) ∷
    (0x72, λ o. the.LoadString (natural o)) ∷
    (0x74, λ o. the.CastClass (natural o)) ∷
    (0x75, λ o. the.IsInstance (natural o)) ∷
    (0x7A, λ o. the.Throw) ∷
    (0xFE1A, λ o. the.Rethrow) ∷
    (0x7B, λ o. the.LoadField (natural o)) ∷
    (0x7C, λ o. the.LoadFieldAddress (natural o)) ∷
    (0x7D, λ o. the.StoreField (natural o)) ∷
    (0x7E, λ o. the.LoadStaticField (natural o)) ∷
    (0x7F, λ o. the.LoadStaticFieldAddress (natural o)) ∷
    (0x80, λ o. the.StoreStaticField (natural o)) ∷
    (0x8C, λ o. the.Box (natural o)) ∷
    (0xA5, λ o. the.UnboxAny (natural o)) ∷
    (0x8D, λ o. the.NewArray (natural o)) ∷
    (0x8E, λ o. the.LoadLength) ∷
    (0x8F, λ o. the.LoadElementAddress (natural o)) ∷
    (0xA3, λ o. the.LoadElement (natural o)) ∷
    (0xA4, λ o. the.StoreElement (natural o)) ∷
    (0xDC, λ o. the.EndFinally) ∷
    (0xDD, λ o. the.Leave (integer o)) ∷
    (0xDE, λ o. the.LeaveShort (integer o)) ∷
    (0xFE01, λ o. the.CompareEqual) ∷
    (0xFE02, λ o. the.CompareGreater) ∷
    (0xFE03, λ o. the.CompareGreaterUnsigned) ∷
    (0xFE04, λ o. the.CompareLess) ∷
    (0xFE05, λ o. the.CompareLessUnsigned) ∷
    (0xFE06, λ o. the.LoadFunction (natural o)) ∷
    (0xFE16, λ o. the.Constrained (natural o)) ∷
    []

abbrev find : List Row → ℕ → Operand → Instruction
find [] code o = the.Nop
find (r ∷ rs) code o = cond (eqb code r.0) (r.1 o) (find rs code o)

abbrev instruction_of : ℕ × Operand → Instruction
instruction_of p = find rows p.0 p.1

instruction_of-row : (i : Instruction) → instruction_of (row i) ≡ i
instruction_of-row the.Nop = refl
instruction_of-row i = refl

row-one : (i j : Instruction) → row i ≡ row j → i ≡ j
row-one i j e = sym (instruction_of-row i) ∙ ap instruction_of e ∙ instruction_of-row j

-- ---- opcodes

listed : (i : Instruction) → list_any (λ other. eqb (opcode i) other) opcodes ≡ true
listed the.Nop = refl
listed i = refl

unlisted : (c d : ℕ) (all : List ℕ) → AllByRecursion (λ x. c ≡ x → ⊥) all → list_any (λ x. eqb d x) all ≡ true → c ≡ d → ⊥
unlisted c d [] h e same = cc
unlisted c d (x ∷ all) h e same =
    elim (cases_eq d x) [ inl p ↦ h.0 (same ∙ p) | inr p ↦ unlisted c d all h.1 (rw (ne_eqb d x p) at e) same ]

-- the kind of an operand, told by the opcode
abbrev tag : Operand → ℕ
tag Nothing = 0
tag (U8 n) = 1
tag (I8 z) = 2
tag (U16 n) = 3
tag (I32 z) = 4
tag (I64 z) = 5
tag (Token n) = 6

abbrev tags : List (ℕ × ℕ)
tags = (0x00, 0) ∷ (0x02, 0) ∷ (0x03, 0) ∷ (0x04, 0) ∷ (0x05, 0) ∷ (0x0E, 1) ∷ (0xFE09, 3) ∷ (0x06, 0) ∷ (0x07, 0) ∷ (0x08, 0) ∷ (0x09, 0) ∷ (0x11, 1) ∷ (0xFE0C, 3) ∷ (0x0A, 0) ∷ (0x0B, 0) ∷ (0x0C, 0) ∷ (0x0D, 0) ∷ (0x13, 1) ∷ (0xFE0E, 3) ∷ (0x0F, 1) ∷ (0xFE0A, 3) ∷ (0x12, 1) ∷ (0xFE0D, 3) ∷ (0x10, 1) ∷ (0xFE0B, 3) ∷ (0x14, 0) ∷ (0x15, 0) ∷ (0x16, 0) ∷ (0x17, 0) ∷ (0x18, 0) ∷ (0x19, 0) ∷ (0x1A, 0) ∷ (0x1B, 0) ∷ (0x1C, 0) ∷ (0x1D, 0) ∷ (0x1E, 0) ∷ (0x1F, 2) ∷ (0x20, 4) ∷ (0x21, 5) ∷ (0x25, 0) ∷ (0x26, 0) ∷ (0x28, 6) ∷ (0x6F, 6) ∷ (0x73, 6) ∷ (0x2A, 0) ∷ (0x2B, 2) ∷ (0x2C, 2) ∷ (0x2D, 2) ∷ (0x38, 4) ∷ (0x39, 4) ∷ (0x3A, 4) ∷ (0x3B, 4) ∷ (0x3C, 4) ∷ (0x3D, 4) ∷ (0x3E, 4) ∷ (0x3F, 4) ∷ (0x40, 4) ∷ (0x41, 4) ∷ (0x42, 4) ∷ (0x43, 4) ∷ (0x44, 4) ∷ (0x58, 0) ∷ (0x59, 0) ∷ (0x5A, 0) ∷ (0x5B, 0) ∷ (0x5C, 0) ∷ (0x5D, 0) ∷ (0x5E, 0) ∷ (0x5F, 0) ∷ (0x60, 0) ∷ (0x61, 0) ∷ (0x62, 0) ∷ (0x63, 0) ∷ (0x64, 0) ∷ (0x65, 0) ∷ (0x66, 0) ∷ (0x67, 0) ∷ (0x68, 0) ∷ (0x69, 0) ∷ (0x6A, 0) ∷ (0x6D, 0) ∷ (0x6E, 0) ∷ (0xD1, 0) ∷ (0xD2, 0) ∷ (0x71, 6) ∷ (0x81, 6) ∷ (0xFE15, 6) ∷ (0x72, 6) ∷ (0x74, 6) ∷ (0x75, 6) ∷ (0x7A, 0) ∷ (0xFE1A, 0) ∷ (0x7B, 6) ∷ (0x7C, 6) ∷ (0x7D, 6) ∷ (0x7E, 6) ∷ (0x7F, 6) ∷ (0x80, 6) ∷ (0x8C, 6) ∷ (0xA5, 6) ∷ (0x8D, 6) ∷ (0x8E, 0) ∷ (0x8F, 6) ∷ (0xA3, 6) ∷ (0xA4, 6) ∷ (0xDC, 0) ∷ (0xDD, 4) ∷ (0xDE, 2) ∷ (0xFE01, 0) ∷ (0xFE02, 0) ∷ (0xFE03, 0) ∷ (0xFE04, 0) ∷ (0xFE05, 0) ∷ (0xFE06, 6) ∷ (0xFE16, 6) ∷ []

abbrev tag_in : List (ℕ × ℕ) → ℕ → ℕ
tag_in [] c = 0
tag_in (r ∷ rs) c = cond (eqb c r.0) r.1 (tag_in rs c)

tag-row : (i : Instruction) → tag_in tags (opcode i) ≡ tag (operand i)
tag-row the.Nop = refl
tag-row i = refl

-- an opcode is one byte, but not FE, or FE and a byte
abbrev is_opcode : ℕ → Bool
is_opcode c = cond (ltb c 0x100) (not (eqb c 0xFE)) (eqb (c / 0x100) 0xFE)

is_opcode-row : (i : Instruction) → is_opcode (opcode i) ≡ true
is_opcode-row the.Nop = refl
is_opcode-row i = refl

cons_one : (a b : ℕ) (x y : List ℕ) → a ∷ x ≡ b ∷ y → (a ≡ b) × (x ≡ y)
cons_one a b x y e = (cc, cc)

opcode_cases : (c : ℕ) → is_opcode c ≡ true → ((c < 0x100) × (c ≡ 0xFE → ⊥)) ⊎ ((0x100 ≤ c) × (c / 0x100 ≡ 0xFE))
opcode_cases c h = grind (arith, nat_tests)

opcode_one : (c d : ℕ) (x y : List ℕ) → is_opcode c ≡ true → is_opcode d ≡ true → opcode_bytes c ++ x ≡ opcode_bytes d ++ y → (c ≡ d) × (x ≡ y)
opcode_one c d x y hc hd e =
    elim (opcode_cases c hc) [
      | inl p ↦ elim (opcode_cases d hd) [
        | inl q ↦ cons_one c d x y (rw (lt-ltb c 0x100 p.0, lt-ltb d 0x100 q.0) at e)
        | inr q ↦ absurd (p.1 ((cons_one c (d / 0x100) x ((d % 0x100) ∷ y) (rw (lt-ltb c 0x100 p.0, le-ltb d 0x100 q.0) at e)).0 ∙ q.1))
      ]
      | inr p ↦ elim (opcode_cases d hd) [
        | inl q ↦ absurd (q.1 (sym (cons_one (c / 0x100) d ((c % 0x100) ∷ x) y (rw (le-ltb c 0x100 p.0, lt-ltb d 0x100 q.0) at e)).0 ∙ p.1))
        | inr q ↦
            let f : c / 0x100 ∷ c % 0x100 ∷ x ≡ d / 0x100 ∷ d % 0x100 ∷ y = rw (le-ltb c 0x100 p.0, le-ltb d 0x100 q.0) at e in
            let g = cons_one (c / 0x100) (d / 0x100) ((c % 0x100) ∷ x) ((d % 0x100) ∷ y) f in
            let k = cons_one (c % 0x100) (d % 0x100) x y g.1 in
            (omega (arith, g.0, k.0), k.1)
      ]
    ]

-- ---- operands

signed_one : (w : Width) (a b : ℤ) → FitsSigned w a → FitsSigned w b → cast_unsigned w a ≡ cast_unsigned w b → a ≡ b
signed_one w a b f g e = sym (to_z-of_z w a f) ∙ ap (cast_signed w) e ∙ to_z-of_z w b g

operand_one : (a b : Operand) (x y : List ℕ) → IsInRange a → IsInRange b → tag a ≡ tag b → operand_bytes a ++ x ≡ operand_bytes b ++ y → (a ≡ b) × (x ≡ y)
operand_one Nothing Nothing x y h k t e = (refl, e)
operand_one (U8 m) (U8 n) x y h k t e = let p = little_endian-one 1 m n x y h k e in (ap U8 p.0, p.1)
operand_one (I8 m) (I8 n) x y h k t e = let p = little_endian-one 1 (cast_unsigned w8 m) (cast_unsigned w8 n) x y (of_z_fits w8 m h).fits (of_z_fits w8 n k).fits e in (ap I8 (signed_one w8 m n h k p.0), p.1)
operand_one (U16 m) (U16 n) x y h k t e = let p = little_endian-one 2 m n x y h k e in (ap U16 p.0, p.1)
operand_one (I32 m) (I32 n) x y h k t e = let p = little_endian-one 4 (cast_unsigned w32 m) (cast_unsigned w32 n) x y (of_z_fits w32 m h).fits (of_z_fits w32 n k).fits e in (ap I32 (signed_one w32 m n h k p.0), p.1)
operand_one (I64 m) (I64 n) x y h k t e = let p = little_endian-one 8 (cast_unsigned w64 m) (cast_unsigned w64 n) x y (of_z_fits w64 m h).fits (of_z_fits w64 n k).fits e in (ap I64 (signed_one w64 m n h k p.0), p.1)
operand_one (Token m) (Token n) x y h k t e = let p = little_endian-one 4 m n x y h k e in (ap Token p.0, p.1)
operand_one a b x y h k t e = absurd (omega (arith, t))

-- ---- instructions

pub spelling_one : (i j : Instruction) (x y : List ℕ) → IsInRange (operand i) → IsInRange (operand j) → spelling i ++ x ≡ spelling j ++ y → (i ≡ j) × (x ≡ y)
spelling_one i j x y h k e =
    let f : opcode_bytes (opcode i) ++ (operand_bytes (operand i) ++ x) ≡ opcode_bytes (opcode j) ++ (operand_bytes (operand j) ++ y) =
    sym (append_assoc (opcode_bytes (opcode i)) (operand_bytes (operand i)) x) ∙ e ∙ append_assoc (opcode_bytes (opcode j)) (operand_bytes (operand j)) y in
    let codes = opcode_one (opcode i) (opcode j) (operand_bytes (operand i) ++ x) (operand_bytes (operand j) ++ y) (is_opcode-row i) (is_opcode-row j) f in
    let kinds : tag (operand i) ≡ tag (operand j) = sym (tag-row i) ∙ ap (tag_in tags) codes.0 ∙ tag-row j in
    let operands = operand_one (operand i) (operand j) x y h k kinds codes.1 in
    let rows : row i ≡ row j = (λ k. (codes.0 k, operands.0 k)) in
    (row-one i j rows, operands.1)

-- the bytes, however they go on, begin with no instruction
pub begins_none : (bytes rest : List ℕ) (c : ℕ) → is_opcode c ≡ true → IsUnlisted c → bytes ≡ opcode_bytes c ++ rest → BeginsNone bytes
begins_none bytes rest c ok h e i more others f =
    let g : opcode_bytes c ++ (rest ++ more) ≡ opcode_bytes (opcode i) ++ (operand_bytes (operand i) ++ others) =
    sym (append_assoc (opcode_bytes c) rest more) ∙ ap (λ (x : List ℕ). x ++ more) (sym e) ∙ f ∙ append_assoc (opcode_bytes (opcode i)) (operand_bytes (operand i)) others in
    let same = opcode_one c (opcode i) (rest ++ more) (operand_bytes (operand i) ++ others) ok (is_opcode-row i) g in
    unlisted c (opcode i) opcodes h (listed i) same.0

operand_lengths : (a b : Operand) → tag a ≡ tag b → length (operand_bytes a) ≡ length (operand_bytes b)
operand_lengths Nothing Nothing t = refl
operand_lengths (U8 m) (U8 n) t = refl
operand_lengths (I8 m) (I8 n) t = refl
operand_lengths (U16 m) (U16 n) t = refl
operand_lengths (I32 m) (I32 n) t = refl
operand_lengths (I64 m) (I64 n) t = refl
operand_lengths (Token m) (Token n) t = refl
operand_lengths a b t = absurd (omega (arith, t))

-- bytes that end inside an instruction begin with no whole one
pub front_not_whole : (bytes rest : List ℕ) (i : Instruction) → IsFront bytes → bytes ≡ spelling i ++ rest → ⊥
front_not_whole bytes rest i (j, more, long, e) f =
    let g : opcode_bytes (opcode i) ++ (operand_bytes (operand i) ++ (rest ++ more)) ≡ opcode_bytes (opcode j) ++ operand_bytes (operand j) =
    ap (λ (x : List ℕ). opcode_bytes (opcode i) ++ x) (sym (append_assoc (operand_bytes (operand i)) rest more)) ∙ sym (append_assoc (opcode_bytes (opcode i)) (operand_bytes (operand i) ++ rest) more)
    ∙ ap (λ (x : List ℕ). x ++ more) (sym (append_assoc (opcode_bytes (opcode i)) (operand_bytes (operand i)) rest)) ∙ ap (λ (x : List ℕ). x ++ more) (sym f) ∙ e in
    let codes = opcode_one (opcode i) (opcode j) (operand_bytes (operand i) ++ (rest ++ more)) (operand_bytes (operand j)) (is_opcode-row i) (is_opcode-row j) g in
    let kinds : tag (operand i) ≡ tag (operand j) = sym (tag-row i) ∙ ap (tag_in tags) codes.0 ∙ tag-row j in
    let lengths = operand_lengths (operand i) (operand j) kinds in
    let total = ap length codes.1 in
    omega (arith, total, length-append (operand_bytes (operand i)) (rest ++ more), length-append rest more)
