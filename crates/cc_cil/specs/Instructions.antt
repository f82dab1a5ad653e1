-- How an instruction is spelled (ECMA-335, III.1.2, III.3, III.4): its opcode, then its operand, the lowest byte first.
--   row i             the one table: the opcode and the operand of each instruction
--   spelling i        the bytes of the instruction
--   IsInRange o       the operand is a number of its type
--   IsFront bytes     the bytes end inside an instruction
--   BeginsNone bytes  however the bytes go on, they begin with no instruction
--   OneSpelling       what makes the spellings readable
use Rattle.std.specs.Prelude.{◌≡◌, ℕ, List, [], ◌∷◌, ◌++◌, ◌/◌, ◌%◌, ◌<◌, ◌≢◌, ◌^◌, FitsSigned, nat_lt, length, if◌then◌else◌}
use Rattle.std.specs.List.{AllByRecursion}
use Rattle.std.specs.Int.{w8, w32, w64, cast_unsigned}
use Rattle.cc_layout.specs.Numbers.{little_endian}
use Rattle.cc_cil.specs.declared.instruction.Instruction.{Instruction}
use Rattle.cc_cil.specs.declared.instruction.Instruction.TheVariants as the
use Rattle.cc_cil.specs.declared.instruction.Operand.{Operand}
use Rattle.cc_cil.specs.declared.instruction.Operand.TheVariants.{Nothing, U8, I8, U16, I32, I64, Token}

abbrev pub row : Instruction → ℕ × Operand
row the.Nop = (0x00, Nothing)
row the.LoadArgument0 = (0x02, Nothing)
row the.LoadArgument1 = (0x03, Nothing)
row the.LoadArgument2 = (0x04, Nothing)
row the.LoadArgument3 = (0x05, Nothing)
row (the.LoadArgumentShort n) = (0x0E, U8 n)
row (the.LoadArgument n) = (0xFE09, U16 n)
row the.LoadLocal0 = (0x06, Nothing)
row the.LoadLocal1 = (0x07, Nothing)
row the.LoadLocal2 = (0x08, Nothing)
row the.LoadLocal3 = (0x09, Nothing)
row (the.LoadLocalShort n) = (0x11, U8 n)
row (the.LoadLocal n) = (0xFE0C, U16 n)
row the.StoreLocal0 = (0x0A, Nothing)
row the.StoreLocal1 = (0x0B, Nothing)
row the.StoreLocal2 = (0x0C, Nothing)
row the.StoreLocal3 = (0x0D, Nothing)
row (the.StoreLocalShort n) = (0x13, U8 n)
row (the.StoreLocal n) = (0xFE0E, U16 n)
row (the.LoadArgumentAddressShort n) = (0x0F, U8 n)
row (the.LoadArgumentAddress n) = (0xFE0A, U16 n)
row (the.LoadLocalAddressShort n) = (0x12, U8 n)
row (the.LoadLocalAddress n) = (0xFE0D, U16 n)
row (the.StoreArgumentShort n) = (0x10, U8 n)
row (the.StoreArgument n) = (0xFE0B, U16 n)
row the.LoadNull = (0x14, Nothing)
row the.LoadIntMinus1 = (0x15, Nothing)
row the.LoadInt0 = (0x16, Nothing)
row the.LoadInt1 = (0x17, Nothing)
row the.LoadInt2 = (0x18, Nothing)
row the.LoadInt3 = (0x19, Nothing)
row the.LoadInt4 = (0x1A, Nothing)
row the.LoadInt5 = (0x1B, Nothing)
row the.LoadInt6 = (0x1C, Nothing)
row the.LoadInt7 = (0x1D, Nothing)
row the.LoadInt8 = (0x1E, Nothing)
row (the.LoadIntShort n) = (0x1F, I8 n)
row (the.LoadInt n) = (0x20, I32 n)
row (the.LoadLong n) = (0x21, I64 n)
row the.Duplicate = (0x25, Nothing)
row the.Pop = (0x26, Nothing)
row (the.Call n) = (0x28, Token n)
row (the.CallVirtual n) = (0x6F, Token n)
row (the.NewObject n) = (0x73, Token n)
row the.Return = (0x2A, Nothing)
row (the.BranchShort n) = (0x2B, I8 n)
row (the.BranchFalseShort n) = (0x2C, I8 n)
row (the.BranchTrueShort n) = (0x2D, I8 n)
row (the.Branch n) = (0x38, I32 n)
row (the.BranchFalse n) = (0x39, I32 n)
row (the.BranchTrue n) = (0x3A, I32 n)
row (the.BranchEqual n) = (0x3B, I32 n)
row (the.BranchGreaterEqual n) = (0x3C, I32 n)
row (the.BranchGreater n) = (0x3D, I32 n)
row (the.BranchLessEqual n) = (0x3E, I32 n)
row (the.BranchLess n) = (0x3F, I32 n)
row (the.BranchNotEqual n) = (0x40, I32 n)
row (the.BranchGreaterEqualUnsigned n) = (0x41, I32 n)
row (the.BranchGreaterUnsigned n) = (0x42, I32 n)
row (the.BranchLessEqualUnsigned n) = (0x43, I32 n)
row (the.BranchLessUnsigned n) = (0x44, I32 n)
row the.Add = (0x58, Nothing)
row the.Subtract = (0x59, Nothing)
row the.Multiply = (0x5A, Nothing)
row the.Divide = (0x5B, Nothing)
row the.DivideUnsigned = (0x5C, Nothing)
row the.Remainder = (0x5D, Nothing)
row the.RemainderUnsigned = (0x5E, Nothing)
row the.And = (0x5F, Nothing)
row the.Or = (0x60, Nothing)
row the.Xor = (0x61, Nothing)
row the.ShiftLeft = (0x62, Nothing)
row the.ShiftRight = (0x63, Nothing)
row the.ShiftRightUnsigned = (0x64, Nothing)
row the.Negate = (0x65, Nothing)
row the.Not = (0x66, Nothing)
row the.ConvertI1 = (0x67, Nothing)
row the.ConvertI2 = (0x68, Nothing)
row the.ConvertI4 = (0x69, Nothing)
row the.ConvertI8 = (0x6A, Nothing)
row the.ConvertU4 = (0x6D, Nothing)
row the.ConvertU8 = (0x6E, Nothing)
row the.ConvertU2 = (0xD1, Nothing)
row the.ConvertU1 = (0xD2, Nothing)
row (the.LoadObject n) = (0x71, Token n)
row (the.StoreObject n) = (0x81, Token n)
row (the.InitializeObject n) = (0xFE15, Token n)
row (the.LoadString n) = (0x72, Token n)
row (the.CastClass n) = (0x74, Token n)
row (the.IsInstance n) = (0x75, Token n)
row the.Throw = (0x7A, Nothing)
row the.Rethrow = (0xFE1A, Nothing)
row (the.LoadField n) = (0x7B, Token n)
row (the.LoadFieldAddress n) = (0x7C, Token n)
row (the.StoreField n) = (0x7D, Token n)
row (the.LoadStaticField n) = (0x7E, Token n)
row (the.LoadStaticFieldAddress n) = (0x7F, Token n)
row (the.StoreStaticField n) = (0x80, Token n)
row (the.Box n) = (0x8C, Token n)
row (the.UnboxAny n) = (0xA5, Token n)
row (the.NewArray n) = (0x8D, Token n)
row the.LoadLength = (0x8E, Nothing)
row (the.LoadElementAddress n) = (0x8F, Token n)
row (the.LoadElement n) = (0xA3, Token n)
row (the.StoreElement n) = (0xA4, Token n)
row the.EndFinally = (0xDC, Nothing)
row (the.Leave n) = (0xDD, I32 n)
row (the.LeaveShort n) = (0xDE, I8 n)
row the.CompareEqual = (0xFE01, Nothing)
row the.CompareGreater = (0xFE02, Nothing)
row the.CompareGreaterUnsigned = (0xFE03, Nothing)
row the.CompareLess = (0xFE04, Nothing)
row the.CompareLessUnsigned = (0xFE05, Nothing)
row (the.LoadFunction n) = (0xFE06, Token n)
row (the.Constrained n) = (0xFE16, Token n)

abbrev pub opcode : Instruction → ℕ
opcode i = (row i).0

abbrev pub operand : Instruction → Operand
operand i = (row i).1

-- an opcode below 256 is one byte, another is FE and its low byte
abbrev pub opcode_bytes : ℕ → List ℕ
opcode_bytes code = if nat_lt code 0x100 then code ∷ [] else code / 0x100 ∷ code % 0x100 ∷ []

abbrev pub operand_bytes : Operand → List ℕ
operand_bytes Nothing = []
operand_bytes (U8 n) = little_endian 1 n
operand_bytes (I8 n) = little_endian 1 (cast_unsigned w8 n)
operand_bytes (U16 n) = little_endian 2 n
operand_bytes (I32 n) = little_endian 4 (cast_unsigned w32 n)
operand_bytes (I64 n) = little_endian 8 (cast_unsigned w64 n)
operand_bytes (Token n) = little_endian 4 n

-- the operand is a number of its type
abbrev pub IsInRange : Operand → Type 0
IsInRange Nothing = Unit {0}
IsInRange (U8 n) = n < 2 ^ 8
IsInRange (I8 n) = FitsSigned w8 n
IsInRange (U16 n) = n < 2 ^ 16
IsInRange (I32 n) = FitsSigned w32 n
IsInRange (I64 n) = FitsSigned w64 n
IsInRange (Token n) = n < 2 ^ 32

abbrev pub spelling : Instruction → List ℕ
spelling i = opcode_bytes (opcode i) ++ operand_bytes (operand i)

abbrev pub IsFront : List ℕ → Type 0
IsFront bytes = (i : Instruction) × (more : List ℕ) × (0 < length more) × (bytes ++ more ≡ spelling i)

abbrev pub BeginsNone : List ℕ → Type 0
BeginsNone bytes = (i : Instruction) (more rest : List ℕ) → bytes ++ more ≡ spelling i ++ rest → ⊥

-- the opcodes of the table
abbrev pub opcodes : List ℕ
opcodes = 0x00 ∷ 0x02 ∷ 0x03 ∷ 0x04 ∷ 0x05 ∷ 0x0E ∷ 0xFE09 ∷ 0x06 ∷ 0x07 ∷ 0x08 ∷ 0x09 ∷ 0x11 ∷ 0xFE0C ∷ 0x0A ∷ 0x0B ∷ 0x0C ∷ 0x0D ∷ 0x13 ∷ 0xFE0E ∷ 0x0F ∷ 0xFE0A ∷ 0x12 ∷ 0xFE0D ∷ 0x10 ∷ 0xFE0B ∷ 0x14 ∷ 0x15 ∷ 0x16 ∷ 0x17 ∷ 0x18 ∷ 0x19 ∷ 0x1A ∷ 0x1B ∷ 0x1C ∷ 0x1D ∷ 0x1E ∷ 0x1F ∷ 0x20 ∷ 0x21 ∷ 0x25 ∷ 0x26 ∷ 0x28 ∷ 0x6F ∷ 0x73 ∷ 0x2A ∷ 0x2B ∷ 0x2C ∷ 0x2D ∷ 0x38 ∷ 0x39 ∷ 0x3A ∷ 0x3B ∷ 0x3C ∷ 0x3D ∷ 0x3E ∷ 0x3F ∷ 0x40 ∷ 0x41 ∷ 0x42 ∷ 0x43 ∷ 0x44 ∷ 0x58 ∷ 0x59 ∷ 0x5A ∷ 0x5B ∷ 0x5C ∷ 0x5D ∷ 0x5E ∷ 0x5F ∷ 0x60 ∷ 0x61 ∷ 0x62 ∷ 0x63 ∷ 0x64 ∷ 0x65 ∷ 0x66 ∷ 0x67 ∷ 0x68 ∷ 0x69 ∷ 0x6A ∷ 0x6D ∷ 0x6E ∷ 0xD1 ∷ 0xD2 ∷ 0x71 ∷ 0x81 ∷ 0xFE15 ∷ 0x72 ∷ 0x74 ∷ 0x75 ∷ 0x7A ∷ 0xFE1A ∷ 0x7B ∷ 0x7C ∷ 0x7D ∷ 0x7E ∷ 0x7F ∷ 0x80 ∷ 0x8C ∷ 0xA5 ∷ 0x8D ∷ 0x8E ∷ 0x8F ∷ 0xA3 ∷ 0xA4 ∷ 0xDC ∷ 0xDD ∷ 0xDE ∷ 0xFE01 ∷ 0xFE02 ∷ 0xFE03 ∷ 0xFE04 ∷ 0xFE05 ∷ 0xFE06 ∷ 0xFE16 ∷ []

-- the opcode is in no row
abbrev pub IsUnlisted : ℕ → Type 0
IsUnlisted code = AllByRecursion (λ other. code ≢ other) opcodes

-- no two instructions have one spelling, and no instruction's spelling begins another's
abbrev pub OneSpelling : Type 0
OneSpelling = (i j : Instruction) (x y : List ℕ) → IsInRange (operand i) → IsInRange (operand j) → spelling i ++ x ≡ spelling j ++ y → (i ≡ j) × (x ≡ y)
