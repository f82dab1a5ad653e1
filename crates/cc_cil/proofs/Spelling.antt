-- What the table of instructions gives for each of its rows.
use Rattle.std.proofs.Common.{◌≡◌, ℕ, zero, suc, ◌+◌, ◌-◌, ◌^◌, ◌<◌, ◌≤◌, List, [], ◌∷◌, ◌++◌, ◌⊎◌, inl, inr, length, drop, refl, sym, ap, ◌∙◌, append_assoc, lit<, arith, length-append, length-drop}
use Rattle.std.proofs.Math.ListN.{replicate, length-replicate}
use Rattle.std.specs.Int.{w8, w32, w64, cast_signed}
use Rattle.std.proofs.lemmas.Int.{of_z-to_z}
use Rattle.cc_layout.specs.Numbers.{little_endian, value_of, AreBytes}
use Rattle.cc_cil.specs.Instructions.{opcode, operand, opcode_bytes, operand_bytes, spelling, IsFront}
use Rattle.cc_cil.specs.declared.instruction.Instruction.{Instruction}
use Rattle.cc_cil.specs.declared.instruction.Instruction.TheVariants as the
use Rattle.cc_layout.proofs.Numbers.{AreBytes-append, AreBytes-back, little_endian-value_of, value_of-below}

pub front_of_code : (bytes : List ℕ) → (bytes ≡ []) ⊎ (bytes ≡ 0xFE ∷ []) → IsFront bytes
front_of_code bytes (inl e) = rw e (the.Nop, 0 ∷ [], lit< tt, refl)
front_of_code bytes (inr e) = rw e (the.CompareEqual, 1 ∷ [], lit< tt, refl)

-- the same row with another operand
fill : (i : Instruction) (n : ℕ) → n < 256 ^ length (operand_bytes (operand i))
    → (j : Instruction) × (opcode j ≡ opcode i) × (operand_bytes (operand j) ≡ little_endian (length (operand_bytes (operand i))) n)
fill (the.LoadArgumentShort _) n h = (the.LoadArgumentShort n, refl, refl)
fill (the.LoadArgument _) n h = (the.LoadArgument n, refl, refl)
fill (the.LoadLocalShort _) n h = (the.LoadLocalShort n, refl, refl)
fill (the.LoadLocal _) n h = (the.LoadLocal n, refl, refl)
fill (the.StoreLocalShort _) n h = (the.StoreLocalShort n, refl, refl)
fill (the.StoreLocal _) n h = (the.StoreLocal n, refl, refl)
fill (the.LoadArgumentAddressShort _) n h = (the.LoadArgumentAddressShort n, refl, refl)
fill (the.LoadArgumentAddress _) n h = (the.LoadArgumentAddress n, refl, refl)
fill (the.LoadLocalAddressShort _) n h = (the.LoadLocalAddressShort n, refl, refl)
fill (the.LoadLocalAddress _) n h = (the.LoadLocalAddress n, refl, refl)
fill (the.StoreArgumentShort _) n h = (the.StoreArgumentShort n, refl, refl)
fill (the.StoreArgument _) n h = (the.StoreArgument n, refl, refl)
fill (the.LoadIntShort _) n h = (the.LoadIntShort (cast_signed w8 n), refl, ap (little_endian 1) (of_z-to_z w8 n h))
fill (the.LoadInt _) n h = (the.LoadInt (cast_signed w32 n), refl, ap (little_endian 4) (of_z-to_z w32 n h))
fill (the.LoadLong _) n h = (the.LoadLong (cast_signed w64 n), refl, ap (little_endian 8) (of_z-to_z w64 n h))
fill (the.Call _) n h = (the.Call n, refl, refl)
fill (the.CallVirtual _) n h = (the.CallVirtual n, refl, refl)
fill (the.NewObject _) n h = (the.NewObject n, refl, refl)
fill (the.BranchShort _) n h = (the.BranchShort (cast_signed w8 n), refl, ap (little_endian 1) (of_z-to_z w8 n h))
fill (the.BranchFalseShort _) n h = (the.BranchFalseShort (cast_signed w8 n), refl, ap (little_endian 1) (of_z-to_z w8 n h))
fill (the.BranchTrueShort _) n h = (the.BranchTrueShort (cast_signed w8 n), refl, ap (little_endian 1) (of_z-to_z w8 n h))
fill (the.Branch _) n h = (the.Branch (cast_signed w32 n), refl, ap (little_endian 4) (of_z-to_z w32 n h))
fill (the.BranchFalse _) n h = (the.BranchFalse (cast_signed w32 n), refl, ap (little_endian 4) (of_z-to_z w32 n h))
fill (the.BranchTrue _) n h = (the.BranchTrue (cast_signed w32 n), refl, ap (little_endian 4) (of_z-to_z w32 n h))
fill (the.BranchEqual _) n h = (the.BranchEqual (cast_signed w32 n), refl, ap (little_endian 4) (of_z-to_z w32 n h))
fill (the.BranchGreaterEqual _) n h = (the.BranchGreaterEqual (cast_signed w32 n), refl, ap (little_endian 4) (of_z-to_z w32 n h))
fill (the.BranchGreater _) n h = (the.BranchGreater (cast_signed w32 n), refl, ap (little_endian 4) (of_z-to_z w32 n h))
fill (the.BranchLessEqual _) n h = (the.BranchLessEqual (cast_signed w32 n), refl, ap (little_endian 4) (of_z-to_z w32 n h))
fill (the.BranchLess _) n h = (the.BranchLess (cast_signed w32 n), refl, ap (little_endian 4) (of_z-to_z w32 n h))
fill (the.BranchNotEqual _) n h = (the.BranchNotEqual (cast_signed w32 n), refl, ap (little_endian 4) (of_z-to_z w32 n h))
fill (the.BranchGreaterEqualUnsigned _) n h = (the.BranchGreaterEqualUnsigned (cast_signed w32 n), refl, ap (little_endian 4) (of_z-to_z w32 n h))
fill (the.BranchGreaterUnsigned _) n h = (the.BranchGreaterUnsigned (cast_signed w32 n), refl, ap (little_endian 4) (of_z-to_z w32 n h))
fill (the.BranchLessEqualUnsigned _) n h = (the.BranchLessEqualUnsigned (cast_signed w32 n), refl, ap (little_endian 4) (of_z-to_z w32 n h))
fill (the.BranchLessUnsigned _) n h = (the.BranchLessUnsigned (cast_signed w32 n), refl, ap (little_endian 4) (of_z-to_z w32 n h))
fill (the.LoadObject _) n h = (the.LoadObject n, refl, refl)
fill (the.StoreObject _) n h = (the.StoreObject n, refl, refl)
fill (the.InitializeObject _) n h = (the.InitializeObject n, refl, refl)
fill (the.LoadString _) n h = (the.LoadString n, refl, refl)
fill (the.CastClass _) n h = (the.CastClass n, refl, refl)
fill (the.IsInstance _) n h = (the.IsInstance n, refl, refl)
fill (the.LoadField _) n h = (the.LoadField n, refl, refl)
fill (the.LoadFieldAddress _) n h = (the.LoadFieldAddress n, refl, refl)
fill (the.StoreField _) n h = (the.StoreField n, refl, refl)
fill (the.LoadStaticField _) n h = (the.LoadStaticField n, refl, refl)
fill (the.LoadStaticFieldAddress _) n h = (the.LoadStaticFieldAddress n, refl, refl)
fill (the.StoreStaticField _) n h = (the.StoreStaticField n, refl, refl)
fill (the.Box _) n h = (the.Box n, refl, refl)
fill (the.UnboxAny _) n h = (the.UnboxAny n, refl, refl)
fill (the.NewArray _) n h = (the.NewArray n, refl, refl)
fill (the.LoadElementAddress _) n h = (the.LoadElementAddress n, refl, refl)
fill (the.LoadElement _) n h = (the.LoadElement n, refl, refl)
fill (the.StoreElement _) n h = (the.StoreElement n, refl, refl)
fill (the.Leave _) n h = (the.Leave (cast_signed w32 n), refl, ap (little_endian 4) (of_z-to_z w32 n h))
fill (the.LeaveShort _) n h = (the.LeaveShort (cast_signed w8 n), refl, ap (little_endian 1) (of_z-to_z w8 n h))
fill (the.LoadFunction _) n h = (the.LoadFunction n, refl, refl)
fill (the.Constrained _) n h = (the.Constrained n, refl, refl)
fill i n h = (i, refl, refl)

zeros_are_bytes : (n : ℕ) → AreBytes (replicate n 0)
zeros_are_bytes zero = tt
zeros_are_bytes (suc n) = (lit< tt, zeros_are_bytes n)

pub front_of_operand : (bytes rest : List ℕ) (i : Instruction) → AreBytes bytes → bytes ≡ opcode_bytes (opcode i) ++ rest
    → length rest < length (operand_bytes (operand i)) → IsFront bytes
front_of_operand bytes rest i fits e short =
    let wide = length (operand_bytes (operand i)) in
    let zeros = replicate (wide - length rest) 0 in
    let zeros_len : length zeros ≡ wide - length rest = length-replicate (wide - length rest) 0 in
    let full = rest ++ zeros in
    let long : length full ≡ wide = omega (arith, length-append rest zeros, zeros_len) in
    let rest_fits : AreBytes rest = AreBytes-back (opcode_bytes (opcode i)) rest (rw e at fits) in
    let fits_full : AreBytes full = AreBytes-append rest zeros rest_fits (zeros_are_bytes (wide - length rest)) in
    let below : value_of full < 256 ^ wide = rw long at (value_of-below full fits_full) in
    let j = fill i (value_of full) below in
    let text : operand_bytes (operand j.0) ≡ full = j.2 ∙ rw long at (little_endian-value_of full fits_full) in
    let whole : bytes ++ zeros ≡ spelling j.0 = ap (λ (x : List ℕ). x ++ zeros) e ∙ append_assoc (opcode_bytes (opcode i)) rest zeros ∙ ap (λ (x : List ℕ). opcode_bytes (opcode i) ++ x) (sym text) ∙ ap (λ (c : ℕ). opcode_bytes c ++ operand_bytes (operand j.0)) (sym j.1) in
    (j.0, zeros, omega arith, whole)

pub whole : (bytes r1 r2 : List ℕ) (i : Instruction) (c : ℕ) → bytes ≡ opcode_bytes c ++ r1 → opcode i ≡ c → r1 ≡ operand_bytes (operand i) ++ r2
    → bytes ≡ spelling i ++ r2
whole bytes r1 r2 i c e f g = e ∙ ap (λ (x : List ℕ). opcode_bytes c ++ x) g ∙ sym (append_assoc (opcode_bytes c) (operand_bytes (operand i)) r2) ∙ ap (λ (x : ℕ). (opcode_bytes x ++ operand_bytes (operand i)) ++ r2) (sym f)

pub place_after : (code text rest : List ℕ) (at : ℕ) → at ≤ length code → drop at code ≡ text ++ rest → length code - length rest ≡ at + length text
place_after code text rest at le e =
    let n : length (drop at code) ≡ length text + length rest = ap length e ∙ length-append text rest in
    omega (arith, n, length-drop at code)
