-- The text of a method body: a line for each instruction, and then one for each clause.
--   hex_word n              eight hexadecimal digits
--   instruction_line        an instruction at its offset, as `    00000000 ldc.i4.0`
--   ListsCode code at text  the lines of the code from an offset on
--   clause_lines            the lines of the clauses
use Rattle.std.specs.Prelude.{◌≡◌, ◌<◌, ◌+◌, ◌%◌, ◌^◌, ℕ, ℤ, Option, Some, None, List, [], ◌∷◌, ◌++◌, codes, decimal, drop, length}
use Rattle.std.specs.Fmt.{signed_decimal}
use Rattle.std.specs.Int.{w32, cast_unsigned, to_be_bytes}
use Rattle.std.specs.List.{flat_map}
use Rattle.hex.specs.Hex.{encode_lower}
use Rattle.cc_cil.specs.declared.body.Body.{Body}
use Rattle.cc_cil.specs.declared.body.Clause.{Clause}
use Rattle.cc_cil.specs.declared.body.ClauseKind.{ClauseKind}
use Rattle.cc_cil.specs.declared.body.ClauseKind.TheVariants.{Catch, Finally, Fault}
use Rattle.cc_cil.specs.declared.instruction.Instruction.{Instruction}
use Rattle.cc_cil.specs.declared.instruction.Instruction.TheVariants as the
use Rattle.cc_cil.specs.declared.instruction.Operand.{Operand}
use Rattle.cc_cil.specs.declared.instruction.Operand.TheVariants.{Nothing, U8, I8, U16, I32, I64, Token}
use Rattle.cc_cil.specs.Instructions.{IsInRange, operand, spelling}
use Rattle.cc_listing.specs.Mnemonics.{mnemonic}

abbrev pub hex_word : ℕ → List ℕ
hex_word n = encode_lower (to_be_bytes w32 n)

-- the offset of a branch, none of another instruction (ECMA-335, III.3)
abbrev pub branch_offset : Instruction → Option ℤ
branch_offset (the.BranchShort offset) = Some offset
branch_offset (the.BranchFalseShort offset) = Some offset
branch_offset (the.BranchTrueShort offset) = Some offset
branch_offset (the.Branch offset) = Some offset
branch_offset (the.BranchFalse offset) = Some offset
branch_offset (the.BranchTrue offset) = Some offset
branch_offset (the.BranchEqual offset) = Some offset
branch_offset (the.BranchGreaterEqual offset) = Some offset
branch_offset (the.BranchGreater offset) = Some offset
branch_offset (the.BranchLessEqual offset) = Some offset
branch_offset (the.BranchLess offset) = Some offset
branch_offset (the.BranchNotEqual offset) = Some offset
branch_offset (the.BranchGreaterEqualUnsigned offset) = Some offset
branch_offset (the.BranchGreaterUnsigned offset) = Some offset
branch_offset (the.BranchLessEqualUnsigned offset) = Some offset
branch_offset (the.BranchLessUnsigned offset) = Some offset
branch_offset (the.Leave offset) = Some offset
branch_offset (the.LeaveShort offset) = Some offset
branch_offset instruction = None

-- where a branch leads, from the offset of the next instruction
abbrev pub target : ℕ → ℤ → ℕ
target past offset = (past + cast_unsigned w32 offset) % 2 ^ 32

-- the operand behind a blank: a number in decimal, a token as eight digits; nothing where there is none
abbrev pub plain_operand : Operand → List ℕ
plain_operand Nothing = []
plain_operand (U8 n) = codes " " ++ decimal n
plain_operand (I8 n) = codes " " ++ signed_decimal n
plain_operand (U16 n) = codes " " ++ decimal n
plain_operand (I32 n) = codes " " ++ signed_decimal n
plain_operand (I64 n) = codes " " ++ signed_decimal n
plain_operand (Token n) = codes " " ++ hex_word n

-- the target of a branch as eight digits, or the operand
abbrev pub operand_or_target : Option ℤ → ℕ → Operand → List ℕ
operand_or_target (Some offset) past o = codes " " ++ hex_word (target past offset)
operand_or_target None past o = plain_operand o

abbrev pub shown_operand : Instruction → ℕ → List ℕ
shown_operand instruction past = operand_or_target (branch_offset instruction) past (operand instruction)

-- the line of an instruction from its offset up to the next instruction
abbrev pub instruction_line : ℕ → Instruction → ℕ → List ℕ
instruction_line at instruction past = codes "    " ++ hex_word at ++ codes " " ++ mnemonic instruction ++ shown_operand instruction past ++ codes "\n"

-- the line of bytes that begin with no instruction
abbrev pub bytes_line : ℕ → List ℕ → List ℕ
bytes_line at bytes = codes "    " ++ hex_word at ++ codes " bytes " ++ encode_lower bytes ++ codes "\n"

-- The lines of the code from an offset on: one for each instruction, up to the end or to the first offset at which no instruction stands.
pub data ListsCode (code : List ℕ) : ℕ → List ℕ → Type 0 where
  ended : ListsCode code (length code) []
  instruction : (i : Instruction) (rest : List ℕ) {at : ℕ} {text : List ℕ} → IsInRange (operand i) → drop at code ≡ spelling i ++ rest
      → ListsCode code (at + length (spelling i)) text → ListsCode code at (instruction_line at i (at + length (spelling i)) ++ text)
  bytes : {at : ℕ} → at < length code → ((i : Instruction) (rest : List ℕ) → IsInRange (operand i) → drop at code ≡ spelling i ++ rest → ⊥)
      → ListsCode code at (bytes_line at (drop at code))

-- the line at an offset, and the offset from which the lines behind it are listed
abbrev pub GoesOn : List ℕ → ℕ → List ℕ → ℕ → Type 0
GoesOn code at line past = (more : List ℕ) → ListsCode code past more → ListsCode code at (line ++ more)

abbrev pub kind_name : ClauseKind → List ℕ
kind_name Catch = codes "catch"
kind_name Finally = codes "finally"
kind_name Fault = codes "fault"

-- kind, offset and length of the protected code, offset and length of the handler, token of the class
abbrev pub clause_line : Clause → List ℕ
clause_line c =
    codes "    clause " ++ kind_name c.kind ++ codes " " ++ hex_word c.try_first ++ codes " " ++ decimal c.try_length ++ codes " " ++ hex_word c.handler_first
    ++ codes " " ++ decimal c.handler_length ++ codes " " ++ hex_word c.class ++ codes "\n"

abbrev pub clause_lines : List Clause → List ℕ
clause_lines clauses = flat_map clause_line clauses

-- the lines of a body
abbrev pub ListsBody : Body → List ℕ → Type 0
ListsBody body text = (lines : List ℕ) × ListsCode body.code 0 lines × (text ≡ lines ++ clause_lines body.clauses)
