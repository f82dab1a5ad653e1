-- Operations that a tree has, and their code, run as the tree's source means.
use Rattle.std.proofs.Common.{◌≡◌, ◌≤◌, ◌<◌, ◌*◌, ◌^◌, ℕ, List, [], ◌∷◌, length, refl, ap, subst, ◌∙◌, length-append, arith}
use Rattle.std.specs.Prelude.{Bool, true, false, Ok, Err, ◌/◌, ◌%◌, nat_lt, if◌then◌else◌}
use Rattle.std.specs.List.{flat_map}
use Rattle.cc_core.specs.declared.straight.StraightOperation.{StraightOperation}
use Rattle.cc_core.specs.StraightSource.{Source, source_operations}
use Rattle.cc_cil.specs.declared.body.Body.{Body}
use Rattle.cc_cil.specs.declared.instruction.Instruction.{Instruction}
use Rattle.cc_cil.specs.declared.instruction.Operand.{Operand}
use Rattle.cc_cil.specs.declared.instruction.Operand.TheVariants as operands
use Rattle.cc_cil.specs.Instructions.{spelling, opcode, operand, operand_bytes}
use Rattle.cc_straight.specs.Form.{Judged}
use Rattle.cc_straight.specs.Added.{AreAdded}
use Rattle.cc_straight.specs.Straight.{RunsAs, IsSmall, IsCodeOf, Acts}

opcode_length : (c : ℕ) (b : Bool) → length (if b then c ∷ [] else c / 0x100 ∷ c % 0x100 ∷ []) ≤ 2
opcode_length c true = omega arith
opcode_length c false = omega arith

operand_length : (o : Operand) → length (operand_bytes o) ≤ 8
operand_length operands.Nothing = omega arith
operand_length (operands.U8 n) = omega arith
operand_length (operands.I8 n) = omega arith
operand_length (operands.U16 n) = omega arith
operand_length (operands.I32 n) = omega arith
operand_length (operands.I64 n) = omega arith
operand_length (operands.Token n) = omega arith

spelling_length : (i : Instruction) → length (spelling i) ≤ 10
spelling_length i = let a = opcode_length (opcode i) (nat_lt (opcode i) 0x100) in let b = operand_length (operand i) in rw length-append (omega (arith, a, b))

pub code_length : (is : List Instruction) (os : List StraightOperation) → Acts is os → length (flat_map spelling is) ≤ 10 * length os
code_length [] [] h = omega arith
code_length [] (o ∷ os) h = absurd h
code_length (i ∷ is) [] h = absurd h
code_length (i ∷ is) (o ∷ os) h = let a = spelling_length i in let b = code_length is os h.2 in rw length-append (omega (arith, a, b))

-- the source whose operations were added to none
pub record AddedAll (judged : Judged Source) (operations : List StraightOperation) : Type 0 where
  pub source : Source
  pub is_source : judged ≡ Ok source
  pub operations_are : operations ≡ source_operations source

pub added_all : (judged : Judged Source) (operations : List StraightOperation) → AreAdded source_operations judged [] operations → AddedAll judged operations
added_all (Ok source) operations h = record { source = source; is_source = refl; operations_are = h }
added_all (Err span) operations h = absurd h

pub runs_as : (body : Body) (source : Source) (operations : List StraightOperation) (code : List ℕ) → body.code ≡ code → IsCodeOf code operations → operations ≡ source_operations source → IsSmall source → RunsAs body source
runs_as body source operations code e emitted same small = record {
  instructions = emitted.0;
  code = e ∙ emitted.1;
  acts = subst (λ os. Acts emitted.0 os) same emitted.2;
  lines_low = small.lines_low;
  result_low = small.result_low;
  short = let few = small.short in omega (arith, few);
}

pub code_short : (source : Source) (operations : List StraightOperation) (code : List ℕ) → IsCodeOf code operations → operations ≡ source_operations source → IsSmall source → length code < 2 ^ 32
code_short source operations code emitted same small =
    let few = small.short in
    let size = ap length same in
    let long = code_length emitted.0 operations emitted.2 in
    rw emitted.1 (omega (arith, few, size, long))
