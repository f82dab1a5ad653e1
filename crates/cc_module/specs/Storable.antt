-- Which modules a file can hold (ECMA-335, II.22, II.24 and II.25).
--   IsStorable m    each name, signature, body and index can stand in its place, tables are sorted, and sizes are within bounds
--   IsInRange m     its numbers are of their types
--   image_size m    the size of the file
use Rattle.std.specs.Prelude.{◌≡◌, ℕ, ◌+◌, ◌-◌, ◌*◌, ◌/◌, ◌^◌, ◌<◌, List, [], ◌∷◌, map, filter, length, IsUtf8}
use Rattle.std.specs.List.{AllByRecursion}
use Rattle.std.specs.List.Sorted.{IsNonDecreasingBy, IsSorted}
use Rattle.std.specs.Ordering.{nat_cmp, ordering_then}
use Rattle.std.specs.declared.cmp.Ordering.{Ordering}
use Rattle.cc_cil.specs.declared.body.Body.{Body}
use Rattle.cc_cil.specs.Bodies.{padding, body_bytes}
use Rattle.cc_cil.specs.Bodies as body
use Rattle.cc_module.specs.declared.table.Table.{Table}
use Rattle.cc_module.specs.declared.rows.GenericParamRow.{GenericParamRow}
use Rattle.cc_module.specs.declared.module.Module.{Module}
use Rattle.cc_module.specs.Indexes.{constant_code, semantics_code, generic_owner_code}
use Rattle.cc_module.specs.Signatures.{IsSignature}
use Rattle.cc_module.specs.Methods.{has_rva}
use Rattle.cc_module.specs.Rows.{Cell, u1, u2, u4, name, guid, signature, blob, row, coded, all_cells, row_count}
use Rattle.cc_module.specs.Metadata.{row_width, coded_width, user_strings_stream, metadata_bytes}

-- ---- columns

-- a name is well-formed text without a zero, a blob has a length with a compressed form, a signature is one, and an index
-- is within its column
abbrev pub FitsCell : (Table → ℕ) → Cell → Type 0
FitsCell rows (u1 value) = Unit {0}
FitsCell rows (u2 value) = Unit {0}
FitsCell rows (u4 value) = Unit {0}
FitsCell rows (name text) = IsUtf8 text × AllByRecursion (λ byte. 0 < byte) text
FitsCell rows (guid index) = Unit {0}
FitsCell rows (signature text) = IsSignature text × (length text < 2 ^ 29)
FitsCell rows (blob text) = length text < 2 ^ 29
FitsCell rows (row table index) = index < 256 ^ row_width (rows table)
FitsCell rows (coded kind index) = index < 256 ^ coded_width rows kind

-- a number is within its column, and an index of the type u32
abbrev pub IsCellInRange : Cell → Type 0
IsCellInRange (u1 value) = value < 2 ^ 8
IsCellInRange (u2 value) = value < 2 ^ 16
IsCellInRange (u4 value) = value < 2 ^ 32
IsCellInRange (name text) = AllByRecursion (λ byte. byte < 256) text
IsCellInRange (guid index) = Unit {0}
IsCellInRange (signature text) = AllByRecursion (λ byte. byte < 256) text
IsCellInRange (blob text) = AllByRecursion (λ byte. byte < 256) text
IsCellInRange (row table index) = index < 2 ^ 32
IsCellInRange (coded kind index) = Unit {0}

-- ---- order of rows (II.22)

-- by owner, and then by number
abbrev pub generic_param_cmp : GenericParamRow → GenericParamRow → Ordering
generic_param_cmp a b = ordering_then (nat_cmp (generic_owner_code a.owner) (generic_owner_code b.owner)) (nat_cmp a.number b.number)

pub record IsSortedModule (m : Module) : Type 0 where
  pub interface_impls : IsNonDecreasingBy (λ r. r.class.0) m.interface_impls
  pub constants : IsNonDecreasingBy (λ r. constant_code r.parent) m.constants
  pub method_semantics : IsNonDecreasingBy (λ r. semantics_code r.association) m.method_semantics
  pub method_impls : IsNonDecreasingBy (λ r. r.class.0) m.method_impls
  pub generic_params : IsSorted generic_param_cmp m.generic_params
  pub generic_param_constraints : IsNonDecreasingBy (λ r. r.owner.0) m.generic_param_constraints

-- ---- places and sizes (II.25): the section is loaded at 2000 and begins with the CLI header, and the bodies follow it

abbrev pub SECTION : ℕ
SECTION = 0x2000

abbrev pub FIRST_BODY : ℕ
FIRST_BODY = 0x2048

-- the next multiple of four
abbrev pub aligned : ℕ → ℕ
aligned place = place + padding place

-- where each body begins, the first at a multiple of four
abbrev pub body_places : ℕ → List Body → List ℕ
body_places at [] = []
body_places at (b ∷ bodies) = at ∷ body_places (aligned (at + length (body_bytes b))) bodies

abbrev pub bodies_end : ℕ → List Body → ℕ
bodies_end at [] = at
bodies_end at (b ∷ bodies) = bodies_end (aligned (at + length (body_bytes b))) bodies

-- where the metadata begins
abbrev pub metadata_place : Module → ℕ
metadata_place m = bodies_end FIRST_BODY m.bodies

-- a multiple of 200 hexadecimal
abbrev pub file_aligned : ℕ → ℕ
file_aligned size = (size + 0x1FF) / 0x200 * 0x200

-- the headers and the section
abbrev pub file_size : ℕ → ℕ
file_size used = 0x200 + file_aligned used

unfoldable pub image_size : Module → ℕ
image_size m = file_size (metadata_place m + length (metadata_bytes m) - SECTION)

-- ---- the module

pub record IsStorable (m : Module) : Type 0 where
  pub columns : AllByRecursion (FitsCell (row_count m)) (all_cells m)
  pub sorted : IsSortedModule m
  pub bodies : AllByRecursion body.HasSpelling m.bodies
  -- each method that has an RVA has a body, and its RVA is the body's place
  pub places : map (λ method. method.rva) (filter has_rva m.methods) ≡ body_places FIRST_BODY m.bodies
  pub user_strings : length (user_strings_stream m.texts) < 2 ^ 24
  pub size : image_size m < 2 ^ 28

pub record IsInRange (m : Module) : Type 0 where
  pub columns : AllByRecursion IsCellInRange (all_cells m)
  pub bodies : AllByRecursion body.IsInRange m.bodies
  pub texts : AllByRecursion (λ text. AllByRecursion (λ unit. unit < 2 ^ 16) text) m.texts
  pub entry : m.entry < 2 ^ 32
