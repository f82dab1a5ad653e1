-- A file can hold the module of a straight program.
use Rattle.std.proofs.Common.{◌≡◌, ℕ, ◌+◌, ◌^◌, ◌<◌, ◌≤◌, ◌==◌, Bool, true, false, List, [], ◌∷◌, length, map, refl, ap, ◌∙◌, arith, rules, cond}
use borrow.Author.Tests.{ltb-true}
use Rattle.std.specs.Prelude.{not, codes, filter, IsUtf8, Option, Some, None, ◌&&◌, nat_lt, if◌then◌else◌}
use Rattle.std.specs.List.{AllByRecursion}
use Rattle.cc_cil.specs.declared.body.Body.{Body}
use Rattle.cc_cil.specs.Bodies as body
use Rattle.cc_module.specs.declared.signature.Signature.{Signature}
use Rattle.cc_module.specs.declared.signature.TypeSignature.{TypeSignature}
use Rattle.cc_module.specs.Methods.{has_rva, NamesMethod, body_of}
use Rattle.cc_module.specs.Rows.{all_cells, row_count}
use Rattle.cc_module.specs.Signatures.{HasSpelling, IsType, AreTypes, IsSignature, signature_bytes}
use Rattle.cc_module.specs.Storable.{FIRST_BODY, FitsCell, IsStorable, IsSortedModule, body_places}
use Rattle.cc_emit.specs.Laws.{BeginsAtStart}
use Rattle.cc_emit.specs.Program.{int, void, strings, main_signature, start_signature, write_line_signature, main_body, start_body, start_code, start_place, main_row, start_row, library_token, module_of, code_limit}
use Rattle.cc_emit.proofs.Names.{is_ascii, has_no_zero, ascii, positive}
use Rattle.cc_emit.proofs.Sizes.{start_is_some, start_size, main_size, image_fits}

name : (text : List ℕ) → is_ascii text ≡ true → has_no_zero text ≡ true → IsUtf8 text × AllByRecursion (λ byte. 0 < byte) text
name text is filled = (ascii text is, positive text filled)

-- ---- signatures

int_is : IsType int
int_is = record { whole = refl; fits = (tt, tt) }

void_is : IsType void
void_is = record { whole = refl; fits = (tt, tt) }

strings_is : IsType strings
strings_is = record { whole = refl; fits = (tt, (tt, tt)) }

none_are : AreTypes []
none_are = record { few = ltb-true 0 (2 ^ 29) refl; each = tt }

one_is : (t : TypeSignature) → IsType t → AreTypes (t ∷ [])
one_is t is = record { few = ltb-true 1 (2 ^ 29) refl; each = (is, tt) }

pub main_spelled : HasSpelling main_signature
main_spelled = (tt, int_is, none_are)

pub start_spelled : HasSpelling start_signature
start_spelled = (tt, int_is, one_is strings strings_is)

pub write_line_spelled : HasSpelling write_line_signature
write_line_spelled = (tt, void_is, one_is int int_is)

blob_of : (s : Signature) → HasSpelling s → nat_lt (length (signature_bytes s)) (2 ^ 29) ≡ true → IsSignature (signature_bytes s) × (length (signature_bytes s) < 2 ^ 29)
blob_of s spelled short = ((s, spelled, refl), ltb-true (length (signature_bytes s)) (2 ^ 29) short)

-- ---- columns

columns : (code : List ℕ) → AllByRecursion (FitsCell (row_count (module_of code))) (all_cells (module_of code))
columns code = (tt, (name (codes "program.exe") refl refl, (tt, (tt, (tt, (ltb-true 6 65536 refl, (name (codes "Console") refl refl, (name (codes "System") refl refl, (tt, (name (codes "<Module>") refl refl, (name [] refl refl, (ltb-true 0 65536 refl, (ltb-true 1 65536 refl, (ltb-true 1 65536 refl, (tt, (tt, (tt, (name (codes "main") refl refl, (blob_of main_signature main_spelled refl, (ltb-true 1 65536 refl, (tt, (tt, (tt, (name (codes "<start>") refl refl, (blob_of start_signature start_spelled refl, (ltb-true 1 65536 refl, (ltb-true 9 65536 refl, (name (codes "WriteLine") refl refl, (blob_of write_line_signature write_line_spelled refl, (tt, (tt, (tt, (tt, (tt, (tt, (ltb-true 0 (2 ^ 29) refl, (name (codes "program") refl refl, (name [] refl refl, (tt, (tt, (tt, (tt, (tt, (ltb-true 8 (2 ^ 29) refl, (name (codes "mscorlib") refl refl, (name [] refl refl, (ltb-true 0 (2 ^ 29) refl, tt)))))))))))))))))))))))))))))))))))))))))))))))

-- ---- the rest

sorted : (code : List ℕ) → IsSortedModule (module_of code)
sorted code = record {
  interface_impls = λ i j d ordered within. let none : j < 0 = within in absurd (omega arith);
  constants = λ i j d ordered within. let none : j < 0 = within in absurd (omega arith);
  method_semantics = λ i j d ordered within. let none : j < 0 = within in absurd (omega arith);
  method_impls = λ i j d ordered within. let none : j < 0 = within in absurd (omega arith);
  generic_params = λ k d low high. let none : k + 1 < 0 = high in absurd (omega arith);
  generic_param_constraints = λ i j d ordered within. let none : j < 0 = within in absurd (omega arith);
}

main_has_spelling : (code : List ℕ) → length code ≤ code_limit → body.HasSpelling (main_body code)
main_has_spelling code within = record { code = omega arith; clauses = ltb-true 0 699051 refl; classes = tt }

start_has_spelling : body.HasSpelling start_body
start_has_spelling = record { code = ltb-true (length start_code) (2 ^ 32) refl; clauses = ltb-true 0 699051 refl; classes = tt }

-- the places of methods of which the second has one or not
abbrev rvas : List ℕ → Bool → List ℕ
rvas code is_none = FIRST_BODY ∷ map (λ method. method.rva) (cond (not is_none) (start_row code ∷ []) [])

places : (code : List ℕ) → map (λ method. method.rva) (filter has_rva (main_row ∷ start_row code ∷ [])) ≡ body_places FIRST_BODY (main_body code ∷ start_body ∷ [])
unfolding start_place
places code = ap (rvas code) (start_is_some code)

pub storable : (code : List ℕ) → length code ≤ code_limit → IsStorable (module_of code)
storable code within = record {
  columns = columns code;
  sorted = sorted code;
  bodies = (main_has_spelling code within, (start_has_spelling, tt));
  places = places code;
  user_strings = ltb-true 4 (2 ^ 24) refl;
  size = image_fits code within;
}

-- ---- the entry

abbrev second_body : Bool → Option ℕ
second_body is_none = if not is_none && nat_lt 1 2 then Some 1 else None

pub begins : (code : List ℕ) → BeginsAtStart code
begins code = record {
  entry = record { counted = search rules; fits = ltb-true 2 (2 ^ 24) refl; there = search rules; is = refl };
  start = ap second_body (start_is_some code);
  main_is = record { counted = search rules; fits = ltb-true 1 (2 ^ 24) refl; there = search rules; is = refl };
  main = refl;
}
