-- The numbers of the module of a straight program are of their types.
use Rattle.std.proofs.Common.{◌≡◌, ℕ, ◌+◌, ◌^◌, ◌<◌, ◌≤◌, List, [], ◌∷◌, length, refl, arith, rules}
use borrow.Author.Tests.{ltb-true}
use Rattle.std.specs.Prelude.{codes}
use Rattle.std.specs.List.{AllByRecursion}
use Rattle.cc_layout.specs.Numbers.{AreBytes}
use Rattle.cc_cil.specs.Bodies as body
use Rattle.cc_module.specs.Rows.{all_cells}
use Rattle.cc_module.specs.Signatures.{signature_bytes}
use Rattle.cc_module.specs.Storable.{IsCellInRange, IsInRange}
use Rattle.cc_emit.specs.Program.{main_signature, start_signature, write_line_signature, main_body, start_body, start_code, start_place, library_token, module_of, code_limit}
use Rattle.cc_emit.proofs.Names.{small}
use Rattle.cc_emit.proofs.Sizes.{pads, start_from}

start_below : (code : List ℕ) → length code ≤ code_limit → start_place code < 2 ^ 32
start_below code within =
    let from = start_from code in
    let near = pads (8276 + length code) in
    omega arith

columns : (code : List ℕ) → length code ≤ code_limit → AllByRecursion IsCellInRange (all_cells (module_of code))
columns code within =
    let zero : 0 < 2 ^ 16 = ltb-true 0 (2 ^ 16) refl in
    let none : 0 < 2 ^ 32 = ltb-true 0 (2 ^ 32) refl in
    let one : 1 < 2 ^ 32 = ltb-true 1 (2 ^ 32) refl in
    let flags : 0x16 < 2 ^ 16 = ltb-true 0x16 (2 ^ 16) refl in (zero, (small (codes "program.exe") refl, (tt, (tt, (tt, (tt, (small (codes "Console") refl, (small (codes "System") refl, (none, (small (codes "<Module>") refl, (tt, (tt, (one, (one, (ltb-true 0x2048 (2 ^ 32) refl, (zero, (flags, (small (codes "main") refl, (small (signature_bytes main_signature) refl, (one, (start_below code within, (zero, (flags, (small (codes "<start>") refl, (small (signature_bytes start_signature) refl, (one, (tt, (small (codes "WriteLine") refl, (small (signature_bytes write_line_signature) refl, (ltb-true 0x8004 (2 ^ 32) refl, (zero, (zero, (zero, (zero, (none, (tt, (small (codes "program") refl, (tt, (ltb-true 4 (2 ^ 16) refl, (zero, (zero, (zero, (none, (small library_token refl, (small (codes "mscorlib") refl, (tt, (tt, tt)))))))))))))))))))))))))))))))))))))))))))))))

pub in_range : (code : List ℕ) → length code ≤ code_limit → AreBytes code → IsInRange (module_of code)
in_range code within bytes = record {
  columns = columns code within;
  bodies = (record { max_stack = ltb-true 256 (2 ^ 16) refl; locals = ltb-true 0 (2 ^ 32) refl; code = bytes; clauses = tt }, (record { max_stack = ltb-true 8 (2 ^ 16) refl; locals = ltb-true 0 (2 ^ 32) refl; code = small start_code refl; clauses = tt }, tt));
  texts = tt;
  entry = ltb-true 0x06000002 (2 ^ 32) refl;
}
