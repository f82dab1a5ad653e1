-- The sizes of the bodies, the metadata and the image of a straight program.
use Rattle.std.proofs.Common.{◌≡◌, ℕ, ◌+◌, ◌-◌, ◌*◌, ◌/◌, ◌%◌, ◌^◌, ◌<◌, ◌≤◌, ◌==◌, Bool, true, false, List, [], ◌∷◌, ◌++◌, length, refl, ap, ◌∙◌, sym, arith, length-append, cond}
use Rattle.std.specs.Prelude.{◌&&◌, nat_lt, if◌then◌else◌}
use Rattle.std.proofs.lemmas.Bool.Decides.{nat_tests}
use Rattle.cc_layout.specs.Layout.{bytes_of}
use Rattle.cc_cil.specs.Bodies.{FAT, body_bytes, fat_header, padding, tiny_header}
use Rattle.cc_module.specs.Metadata.{metadata_bytes, metadata_with}
use Rattle.cc_module.specs.Storable.{FIRST_BODY, SECTION, aligned, file_aligned, file_size, image_size}
use Rattle.cc_emit.specs.Program.{main_body, start_body, start_place, module_of, code_limit, image_limit}

not_tiny : (short : Bool) → (short && (0 == 0) && (256 == 8)) ≡ false
not_tiny true = refl
not_tiny false = refl

abbrev main_bytes : List ℕ → Bool → List ℕ
main_bytes code tiny = if tiny then bytes_of (tiny_header (length code)) ++ code else bytes_of (fat_header FAT 256 (length code) 0) ++ code

pub main_size : (code : List ℕ) → length (body_bytes (main_body code)) ≡ 12 + length code
main_size code = ap (λ (tiny : Bool). length (main_bytes code tiny)) (not_tiny (nat_lt (length code) 64)) ∙ length-append (bytes_of (fat_header FAT 256 (length code) 0)) code

pub start_size : length (body_bytes start_body) ≡ 7
start_size = refl

-- how far a multiple of four is
pub pads : (place : ℕ) → padding place < 4
pads place = omega arith

pub start_from : (code : List ℕ) → start_place code ≡ 8276 + length code + padding (8276 + length code)
unfolding start_place
start_from code = ap (λ (n : ℕ). aligned n) (ap (λ (n : ℕ). FIRST_BODY + n) (main_size code) ∙ omega arith)

pub start_is_some : (code : List ℕ) → (start_place code == 0) ≡ false
start_is_some code = let from = start_from code in grind (arith, nat_tests)

pub metadata_size : (code : List ℕ) → length (metadata_bytes (module_of code)) ≡ 396
unfolding metadata_with
metadata_size code = refl

pub image_fits : (code : List ℕ) → length code ≤ code_limit → image_size (module_of code) < 2 ^ 28
unfolding image_size start_place
image_fits code within =
    let from = start_from code in
    let first = pads (8276 + length code) in
    let second = pads (start_place code + 7) in
    let size = metadata_size code in
    let is : image_size (module_of code) ≡ file_size (aligned (start_place code + 7) + 396 - SECTION) = rw size refl in
    omega (arith, is)

pub image_within : (code : List ℕ) → length code ≤ code_limit → image_size (module_of code) ≤ image_limit
image_within code within = let fits = image_fits code within in omega arith
