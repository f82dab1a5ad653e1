-- The numbers of rows that the stream #~ tells are those that were written.
use Rattle.std.proofs.Common.{◌≡◌, ℕ, zero, suc, ◌+◌, ◌*◌, ◌/◌, ◌%◌, ◌^◌, ◌≤◌, ◌<◌, ◌==◌, Bool, true, false, max, List, [], ◌∷◌, ◌++◌, length, take, drop, map, refl, sym, ap, subst, ◌∙◌, ◌⊎◌, inl, inr, append_assoc, arith}
use Rattle.std.specs.Prelude.{slice_index, nat_lt, if◌then◌else◌}
use Rattle.std.specs.List.{flat_map, AllByRecursion, sum}
use Rattle.std.proofs.lemmas.Bool.{le-ltb, eqb-true, eqb-false}
use Rattle.std.proofs.lemmas.List.{append-nil, length-append, take_at, drop_at}
use Rattle.cc_layout.specs.declared.field.Field.{Field}
use Rattle.cc_layout.specs.Numbers.{little_endian, value_of}
use Rattle.cc_layout.specs.Layout.{number, bytes_of, FitsField, Spells, peeked}
use Rattle.cc_layout.proofs.Numbers.{length-little_endian, value_of-little_endian}
use Rattle.cc_layout.proofs.Laws.{bytes_of-append, bytes_of-spells, peeked-stands}
use Rattle.cc_module.specs.declared.table.Table.{Table}
use Rattle.cc_module.specs.declared.table.Table.TheVariants as the
use Rattle.cc_module.specs.Metadata.{Sizes, tables, table_number, valid_bit, valid, wide_bit, heap_sizes, count_field, tables_header, GUID_SIZE, SORTED}
use Rattle.cc_tables.specs.Counts.{position, has_table, count_at, place_after, counts_in, table_rows, rows_in}
use Rattle.cc_tables.proofs.Heaps.{which}

-- ---- the bits of the tables that are there

bit_at_0 : (v low b high : ℕ) → low < 0x1 → b ≤ 1 → v ≡ low + 0x1 * b + 0x2 * high → v / 0x1 % 2 ≡ b
bit_at_0 v low b high l s e = omega (arith, l, s, e)

bit_at_1 : (v low b high : ℕ) → low < 0x2 → b ≤ 1 → v ≡ low + 0x2 * b + 0x4 * high → v / 0x2 % 2 ≡ b
bit_at_1 v low b high l s e = omega (arith, l, s, e)

bit_at_2 : (v low b high : ℕ) → low < 0x4 → b ≤ 1 → v ≡ low + 0x4 * b + 0x8 * high → v / 0x4 % 2 ≡ b
bit_at_2 v low b high l s e = omega (arith, l, s, e)

bit_at_3 : (v low b high : ℕ) → low < 0x10 → b ≤ 1 → v ≡ low + 0x10 * b + 0x20 * high → v / 0x10 % 2 ≡ b
bit_at_3 v low b high l s e = omega (arith, l, s, e)

bit_at_4 : (v low b high : ℕ) → low < 0x40 → b ≤ 1 → v ≡ low + 0x40 * b + 0x80 * high → v / 0x40 % 2 ≡ b
bit_at_4 v low b high l s e = omega (arith, l, s, e)

bit_at_5 : (v low b high : ℕ) → low < 0x100 → b ≤ 1 → v ≡ low + 0x100 * b + 0x200 * high → v / 0x100 % 2 ≡ b
bit_at_5 v low b high l s e = omega (arith, l, s, e)

bit_at_6 : (v low b high : ℕ) → low < 0x200 → b ≤ 1 → v ≡ low + 0x200 * b + 0x400 * high → v / 0x200 % 2 ≡ b
bit_at_6 v low b high l s e = omega (arith, l, s, e)

bit_at_7 : (v low b high : ℕ) → low < 0x400 → b ≤ 1 → v ≡ low + 0x400 * b + 0x800 * high → v / 0x400 % 2 ≡ b
bit_at_7 v low b high l s e = omega (arith, l, s, e)

bit_at_8 : (v low b high : ℕ) → low < 0x800 → b ≤ 1 → v ≡ low + 0x800 * b + 0x1000 * high → v / 0x800 % 2 ≡ b
bit_at_8 v low b high l s e = omega (arith, l, s, e)

bit_at_9 : (v low b high : ℕ) → low < 0x20000 → b ≤ 1 → v ≡ low + 0x20000 * b + 0x40000 * high → v / 0x20000 % 2 ≡ b
bit_at_9 v low b high l s e = omega (arith, l, s, e)

bit_at_10 : (v low b high : ℕ) → low < 0x200000 → b ≤ 1 → v ≡ low + 0x200000 * b + 0x400000 * high → v / 0x200000 % 2 ≡ b
bit_at_10 v low b high l s e = omega (arith, l, s, e)

bit_at_11 : (v low b high : ℕ) → low < 0x800000 → b ≤ 1 → v ≡ low + 0x800000 * b + 0x1000000 * high → v / 0x800000 % 2 ≡ b
bit_at_11 v low b high l s e = omega (arith, l, s, e)

bit_at_12 : (v low b high : ℕ) → low < 0x1000000 → b ≤ 1 → v ≡ low + 0x1000000 * b + 0x2000000 * high → v / 0x1000000 % 2 ≡ b
bit_at_12 v low b high l s e = omega (arith, l, s, e)

bit_at_13 : (v low b high : ℕ) → low < 0x2000000 → b ≤ 1 → v ≡ low + 0x2000000 * b + 0x4000000 * high → v / 0x2000000 % 2 ≡ b
bit_at_13 v low b high l s e = omega (arith, l, s, e)

bit_at_14 : (v low b high : ℕ) → low < 0x8000000 → b ≤ 1 → v ≡ low + 0x8000000 * b + 0x10000000 * high → v / 0x8000000 % 2 ≡ b
bit_at_14 v low b high l s e = omega (arith, l, s, e)

bit_at_15 : (v low b high : ℕ) → low < 0x100000000 → b ≤ 1 → v ≡ low + 0x100000000 * b + 0x200000000 * high → v / 0x100000000 % 2 ≡ b
bit_at_15 v low b high l s e = omega (arith, l, s, e)

bit_at_16 : (v low b high : ℕ) → low < 0x800000000 → b ≤ 1 → v ≡ low + 0x800000000 * b + 0x1000000000 * high → v / 0x800000000 % 2 ≡ b
bit_at_16 v low b high l s e = omega (arith, l, s, e)

bit_at_17 : (v low b high : ℕ) → low < 0x40000000000 → b ≤ 1 → v ≡ low + 0x40000000000 * b + 0x80000000000 * high → v / 0x40000000000 % 2 ≡ b
bit_at_17 v low b high l s e = omega (arith, l, s, e)

bit_at_18 : (v low b high : ℕ) → low < 0x80000000000 → b ≤ 1 → v ≡ low + 0x80000000000 * b + 0x100000000000 * high → v / 0x80000000000 % 2 ≡ b
bit_at_18 v low b high l s e = omega (arith, l, s, e)

bit_at_19 : (v low b high : ℕ) → low < 0x100000000000 → b ≤ 1 → v ≡ low + 0x100000000000 * b + 0x200000000000 * high → v / 0x100000000000 % 2 ≡ b
bit_at_19 v low b high l s e = omega (arith, l, s, e)

module _ (rows : Table → ℕ) where
  bit : Table → ℕ
  bit table = if rows table == 0 then 0 else 1

  bit_low : (table : Table) → bit table ≤ 1
  unfolding bit
  bit_low table =
      elim (which (rows table == 0)) [
        | inl s ↦ rw s (omega arith)
        | inr s ↦ rw s (omega arith)
      ]

  bit_valid : (table : Table) (p : ℕ) → 2 ^ table_number table ≡ p → valid_bit rows table ≡ p * bit table
  unfolding bit
  bit_valid table p e =
      elim (which (rows table == 0)) [
        | inl s ↦ rw s (omega arith)
        | inr s ↦ rw s (e ∙ omega arith)
      ]

  low_0 : bit the.Module ≤ 1
  low_0 = bit_low the.Module

  low_1 : bit the.TypeRef ≤ 1
  low_1 = bit_low the.TypeRef

  low_2 : bit the.TypeDef ≤ 1
  low_2 = bit_low the.TypeDef

  low_3 : bit the.Field ≤ 1
  low_3 = bit_low the.Field

  low_4 : bit the.MethodDef ≤ 1
  low_4 = bit_low the.MethodDef

  low_5 : bit the.Param ≤ 1
  low_5 = bit_low the.Param

  low_6 : bit the.InterfaceImpl ≤ 1
  low_6 = bit_low the.InterfaceImpl

  low_7 : bit the.MemberRef ≤ 1
  low_7 = bit_low the.MemberRef

  low_8 : bit the.Constant ≤ 1
  low_8 = bit_low the.Constant

  low_9 : bit the.StandAloneSig ≤ 1
  low_9 = bit_low the.StandAloneSig

  low_10 : bit the.PropertyMap ≤ 1
  low_10 = bit_low the.PropertyMap

  low_11 : bit the.Property ≤ 1
  low_11 = bit_low the.Property

  low_12 : bit the.MethodSemantics ≤ 1
  low_12 = bit_low the.MethodSemantics

  low_13 : bit the.MethodImpl ≤ 1
  low_13 = bit_low the.MethodImpl

  low_14 : bit the.TypeSpec ≤ 1
  low_14 = bit_low the.TypeSpec

  low_15 : bit the.Assembly ≤ 1
  low_15 = bit_low the.Assembly

  low_16 : bit the.AssemblyRef ≤ 1
  low_16 = bit_low the.AssemblyRef

  low_17 : bit the.GenericParam ≤ 1
  low_17 = bit_low the.GenericParam

  low_18 : bit the.MethodSpec ≤ 1
  low_18 = bit_low the.MethodSpec

  low_19 : bit the.GenericParamConstraint ≤ 1
  low_19 = bit_low the.GenericParamConstraint

  total : valid rows ≡ 0x1 * bit the.Module + 0x2 * bit the.TypeRef + 0x4 * bit the.TypeDef + 0x10 * bit the.Field + 0x40 * bit the.MethodDef + 0x100 * bit the.Param + 0x200 * bit the.InterfaceImpl + 0x400 * bit the.MemberRef + 0x800 * bit the.Constant + 0x20000 * bit the.StandAloneSig + 0x200000 * bit the.PropertyMap + 0x800000 * bit the.Property + 0x1000000 * bit the.MethodSemantics + 0x2000000 * bit the.MethodImpl + 0x8000000 * bit the.TypeSpec + 0x100000000 * bit the.Assembly + 0x800000000 * bit the.AssemblyRef + 0x40000000000 * bit the.GenericParam + 0x80000000000 * bit the.MethodSpec + 0x100000000000 * bit the.GenericParamConstraint
  total =
      let v0 : valid_bit rows the.Module ≡ 0x1 * bit the.Module = bit_valid the.Module 0x1 refl in
      let v1 : valid_bit rows the.TypeRef ≡ 0x2 * bit the.TypeRef = bit_valid the.TypeRef 0x2 refl in
      let v2 : valid_bit rows the.TypeDef ≡ 0x4 * bit the.TypeDef = bit_valid the.TypeDef 0x4 refl in
      let v3 : valid_bit rows the.Field ≡ 0x10 * bit the.Field = bit_valid the.Field 0x10 refl in
      let v4 : valid_bit rows the.MethodDef ≡ 0x40 * bit the.MethodDef = bit_valid the.MethodDef 0x40 refl in
      let v5 : valid_bit rows the.Param ≡ 0x100 * bit the.Param = bit_valid the.Param 0x100 refl in
      let v6 : valid_bit rows the.InterfaceImpl ≡ 0x200 * bit the.InterfaceImpl = bit_valid the.InterfaceImpl 0x200 refl in
      let v7 : valid_bit rows the.MemberRef ≡ 0x400 * bit the.MemberRef = bit_valid the.MemberRef 0x400 refl in
      let v8 : valid_bit rows the.Constant ≡ 0x800 * bit the.Constant = bit_valid the.Constant 0x800 refl in
      let v9 : valid_bit rows the.StandAloneSig ≡ 0x20000 * bit the.StandAloneSig = bit_valid the.StandAloneSig 0x20000 refl in
      let v10 : valid_bit rows the.PropertyMap ≡ 0x200000 * bit the.PropertyMap = bit_valid the.PropertyMap 0x200000 refl in
      let v11 : valid_bit rows the.Property ≡ 0x800000 * bit the.Property = bit_valid the.Property 0x800000 refl in
      let v12 : valid_bit rows the.MethodSemantics ≡ 0x1000000 * bit the.MethodSemantics = bit_valid the.MethodSemantics 0x1000000 refl in
      let v13 : valid_bit rows the.MethodImpl ≡ 0x2000000 * bit the.MethodImpl = bit_valid the.MethodImpl 0x2000000 refl in
      let v14 : valid_bit rows the.TypeSpec ≡ 0x8000000 * bit the.TypeSpec = bit_valid the.TypeSpec 0x8000000 refl in
      let v15 : valid_bit rows the.Assembly ≡ 0x100000000 * bit the.Assembly = bit_valid the.Assembly 0x100000000 refl in
      let v16 : valid_bit rows the.AssemblyRef ≡ 0x800000000 * bit the.AssemblyRef = bit_valid the.AssemblyRef 0x800000000 refl in
      let v17 : valid_bit rows the.GenericParam ≡ 0x40000000000 * bit the.GenericParam = bit_valid the.GenericParam 0x40000000000 refl in
      let v18 : valid_bit rows the.MethodSpec ≡ 0x80000000000 * bit the.MethodSpec = bit_valid the.MethodSpec 0x80000000000 refl in
      let v19 : valid_bit rows the.GenericParamConstraint ≡ 0x100000000000 * bit the.GenericParamConstraint = bit_valid the.GenericParamConstraint 0x100000000000 refl in
      omega (arith, v0, v1, v2, v3, v4, v5, v6, v7, v8, v9, v10, v11, v12, v13, v14, v15, v16, v17, v18, v19)

  told : (table : Table) → valid rows / 2 ^ table_number table % 2 ≡ bit table
  told the.Module =
      let low : ℕ = 0 in
      let high : ℕ = 0x1 * bit the.TypeRef + 0x2 * bit the.TypeDef + 0x8 * bit the.Field + 0x20 * bit the.MethodDef + 0x80 * bit the.Param + 0x100 * bit the.InterfaceImpl + 0x200 * bit the.MemberRef + 0x400 * bit the.Constant + 0x10000 * bit the.StandAloneSig + 0x100000 * bit the.PropertyMap + 0x400000 * bit the.Property + 0x800000 * bit the.MethodSemantics + 0x1000000 * bit the.MethodImpl + 0x4000000 * bit the.TypeSpec + 0x80000000 * bit the.Assembly + 0x400000000 * bit the.AssemblyRef + 0x20000000000 * bit the.GenericParam + 0x40000000000 * bit the.MethodSpec + 0x80000000000 * bit the.GenericParamConstraint in
      let below : low < 0x1 = omega arith in
      let parts : valid rows ≡ low + 0x1 * bit the.Module + 0x2 * high = omega (arith, total) in
      bit_at_0 (valid rows) low (bit the.Module) high below low_0 parts
  told the.TypeRef =
      let low : ℕ = 0x1 * bit the.Module in
      let high : ℕ = 0x1 * bit the.TypeDef + 0x4 * bit the.Field + 0x10 * bit the.MethodDef + 0x40 * bit the.Param + 0x80 * bit the.InterfaceImpl + 0x100 * bit the.MemberRef + 0x200 * bit the.Constant + 0x8000 * bit the.StandAloneSig + 0x80000 * bit the.PropertyMap + 0x200000 * bit the.Property + 0x400000 * bit the.MethodSemantics + 0x800000 * bit the.MethodImpl + 0x2000000 * bit the.TypeSpec + 0x40000000 * bit the.Assembly + 0x200000000 * bit the.AssemblyRef + 0x10000000000 * bit the.GenericParam + 0x20000000000 * bit the.MethodSpec + 0x40000000000 * bit the.GenericParamConstraint in
      let below : low < 0x2 = omega (arith, low_0) in
      let parts : valid rows ≡ low + 0x2 * bit the.TypeRef + 0x4 * high = omega (arith, total) in
      bit_at_1 (valid rows) low (bit the.TypeRef) high below low_1 parts
  told the.TypeDef =
      let low : ℕ = 0x1 * bit the.Module + 0x2 * bit the.TypeRef in
      let high : ℕ = 0x2 * bit the.Field + 0x8 * bit the.MethodDef + 0x20 * bit the.Param + 0x40 * bit the.InterfaceImpl + 0x80 * bit the.MemberRef + 0x100 * bit the.Constant + 0x4000 * bit the.StandAloneSig + 0x40000 * bit the.PropertyMap + 0x100000 * bit the.Property + 0x200000 * bit the.MethodSemantics + 0x400000 * bit the.MethodImpl + 0x1000000 * bit the.TypeSpec + 0x20000000 * bit the.Assembly + 0x100000000 * bit the.AssemblyRef + 0x8000000000 * bit the.GenericParam + 0x10000000000 * bit the.MethodSpec + 0x20000000000 * bit the.GenericParamConstraint in
      let below : low < 0x4 = omega (arith, low_0, low_1) in
      let parts : valid rows ≡ low + 0x4 * bit the.TypeDef + 0x8 * high = omega (arith, total) in
      bit_at_2 (valid rows) low (bit the.TypeDef) high below low_2 parts
  told the.Field =
      let low : ℕ = 0x1 * bit the.Module + 0x2 * bit the.TypeRef + 0x4 * bit the.TypeDef in
      let high : ℕ = 0x2 * bit the.MethodDef + 0x8 * bit the.Param + 0x10 * bit the.InterfaceImpl + 0x20 * bit the.MemberRef + 0x40 * bit the.Constant + 0x1000 * bit the.StandAloneSig + 0x10000 * bit the.PropertyMap + 0x40000 * bit the.Property + 0x80000 * bit the.MethodSemantics + 0x100000 * bit the.MethodImpl + 0x400000 * bit the.TypeSpec + 0x8000000 * bit the.Assembly + 0x40000000 * bit the.AssemblyRef + 0x2000000000 * bit the.GenericParam + 0x4000000000 * bit the.MethodSpec + 0x8000000000 * bit the.GenericParamConstraint in
      let below : low < 0x10 = omega (arith, low_0, low_1, low_2) in
      let parts : valid rows ≡ low + 0x10 * bit the.Field + 0x20 * high = omega (arith, total) in
      bit_at_3 (valid rows) low (bit the.Field) high below low_3 parts
  told the.MethodDef =
      let low : ℕ = 0x1 * bit the.Module + 0x2 * bit the.TypeRef + 0x4 * bit the.TypeDef + 0x10 * bit the.Field in
      let high : ℕ = 0x2 * bit the.Param + 0x4 * bit the.InterfaceImpl + 0x8 * bit the.MemberRef + 0x10 * bit the.Constant + 0x400 * bit the.StandAloneSig + 0x4000 * bit the.PropertyMap + 0x10000 * bit the.Property + 0x20000 * bit the.MethodSemantics + 0x40000 * bit the.MethodImpl + 0x100000 * bit the.TypeSpec + 0x2000000 * bit the.Assembly + 0x10000000 * bit the.AssemblyRef + 0x800000000 * bit the.GenericParam + 0x1000000000 * bit the.MethodSpec + 0x2000000000 * bit the.GenericParamConstraint in
      let below : low < 0x40 = omega (arith, low_0, low_1, low_2, low_3) in
      let parts : valid rows ≡ low + 0x40 * bit the.MethodDef + 0x80 * high = omega (arith, total) in
      bit_at_4 (valid rows) low (bit the.MethodDef) high below low_4 parts
  told the.Param =
      let low : ℕ = 0x1 * bit the.Module + 0x2 * bit the.TypeRef + 0x4 * bit the.TypeDef + 0x10 * bit the.Field + 0x40 * bit the.MethodDef in
      let high : ℕ = 0x1 * bit the.InterfaceImpl + 0x2 * bit the.MemberRef + 0x4 * bit the.Constant + 0x100 * bit the.StandAloneSig + 0x1000 * bit the.PropertyMap + 0x4000 * bit the.Property + 0x8000 * bit the.MethodSemantics + 0x10000 * bit the.MethodImpl + 0x40000 * bit the.TypeSpec + 0x800000 * bit the.Assembly + 0x4000000 * bit the.AssemblyRef + 0x200000000 * bit the.GenericParam + 0x400000000 * bit the.MethodSpec + 0x800000000 * bit the.GenericParamConstraint in
      let below : low < 0x100 = omega (arith, low_0, low_1, low_2, low_3, low_4) in
      let parts : valid rows ≡ low + 0x100 * bit the.Param + 0x200 * high = omega (arith, total) in
      bit_at_5 (valid rows) low (bit the.Param) high below low_5 parts
  told the.InterfaceImpl =
      let low : ℕ = 0x1 * bit the.Module + 0x2 * bit the.TypeRef + 0x4 * bit the.TypeDef + 0x10 * bit the.Field + 0x40 * bit the.MethodDef + 0x100 * bit the.Param in
      let high : ℕ = 0x1 * bit the.MemberRef + 0x2 * bit the.Constant + 0x80 * bit the.StandAloneSig + 0x800 * bit the.PropertyMap + 0x2000 * bit the.Property + 0x4000 * bit the.MethodSemantics + 0x8000 * bit the.MethodImpl + 0x20000 * bit the.TypeSpec + 0x400000 * bit the.Assembly + 0x2000000 * bit the.AssemblyRef + 0x100000000 * bit the.GenericParam + 0x200000000 * bit the.MethodSpec + 0x400000000 * bit the.GenericParamConstraint in
      let below : low < 0x200 = omega (arith, low_0, low_1, low_2, low_3, low_4, low_5) in
      let parts : valid rows ≡ low + 0x200 * bit the.InterfaceImpl + 0x400 * high = omega (arith, total) in
      bit_at_6 (valid rows) low (bit the.InterfaceImpl) high below low_6 parts
  told the.MemberRef =
      let low : ℕ = 0x1 * bit the.Module + 0x2 * bit the.TypeRef + 0x4 * bit the.TypeDef + 0x10 * bit the.Field + 0x40 * bit the.MethodDef + 0x100 * bit the.Param + 0x200 * bit the.InterfaceImpl in
      let high : ℕ = 0x1 * bit the.Constant + 0x40 * bit the.StandAloneSig + 0x400 * bit the.PropertyMap + 0x1000 * bit the.Property + 0x2000 * bit the.MethodSemantics + 0x4000 * bit the.MethodImpl + 0x10000 * bit the.TypeSpec + 0x200000 * bit the.Assembly + 0x1000000 * bit the.AssemblyRef + 0x80000000 * bit the.GenericParam + 0x100000000 * bit the.MethodSpec + 0x200000000 * bit the.GenericParamConstraint in
      let below : low < 0x400 = omega (arith, low_0, low_1, low_2, low_3, low_4, low_5, low_6) in
      let parts : valid rows ≡ low + 0x400 * bit the.MemberRef + 0x800 * high = omega (arith, total) in
      bit_at_7 (valid rows) low (bit the.MemberRef) high below low_7 parts
  told the.Constant =
      let low : ℕ = 0x1 * bit the.Module + 0x2 * bit the.TypeRef + 0x4 * bit the.TypeDef + 0x10 * bit the.Field + 0x40 * bit the.MethodDef + 0x100 * bit the.Param + 0x200 * bit the.InterfaceImpl + 0x400 * bit the.MemberRef in
      let high : ℕ = 0x20 * bit the.StandAloneSig + 0x200 * bit the.PropertyMap + 0x800 * bit the.Property + 0x1000 * bit the.MethodSemantics + 0x2000 * bit the.MethodImpl + 0x8000 * bit the.TypeSpec + 0x100000 * bit the.Assembly + 0x800000 * bit the.AssemblyRef + 0x40000000 * bit the.GenericParam + 0x80000000 * bit the.MethodSpec + 0x100000000 * bit the.GenericParamConstraint in
      let below : low < 0x800 = omega (arith, low_0, low_1, low_2, low_3, low_4, low_5, low_6, low_7) in
      let parts : valid rows ≡ low + 0x800 * bit the.Constant + 0x1000 * high = omega (arith, total) in
      bit_at_8 (valid rows) low (bit the.Constant) high below low_8 parts
  told the.StandAloneSig =
      let low : ℕ = 0x1 * bit the.Module + 0x2 * bit the.TypeRef + 0x4 * bit the.TypeDef + 0x10 * bit the.Field + 0x40 * bit the.MethodDef + 0x100 * bit the.Param + 0x200 * bit the.InterfaceImpl + 0x400 * bit the.MemberRef + 0x800 * bit the.Constant in
      let high : ℕ = 0x8 * bit the.PropertyMap + 0x20 * bit the.Property + 0x40 * bit the.MethodSemantics + 0x80 * bit the.MethodImpl + 0x200 * bit the.TypeSpec + 0x4000 * bit the.Assembly + 0x20000 * bit the.AssemblyRef + 0x1000000 * bit the.GenericParam + 0x2000000 * bit the.MethodSpec + 0x4000000 * bit the.GenericParamConstraint in
      let below : low < 0x20000 = omega (arith, low_0, low_1, low_2, low_3, low_4, low_5, low_6, low_7, low_8) in
      let parts : valid rows ≡ low + 0x20000 * bit the.StandAloneSig + 0x40000 * high = omega (arith, total) in
      bit_at_9 (valid rows) low (bit the.StandAloneSig) high below low_9 parts
  told the.PropertyMap =
      let low : ℕ = 0x1 * bit the.Module + 0x2 * bit the.TypeRef + 0x4 * bit the.TypeDef + 0x10 * bit the.Field + 0x40 * bit the.MethodDef + 0x100 * bit the.Param + 0x200 * bit the.InterfaceImpl + 0x400 * bit the.MemberRef + 0x800 * bit the.Constant + 0x20000 * bit the.StandAloneSig in
      let high : ℕ = 0x2 * bit the.Property + 0x4 * bit the.MethodSemantics + 0x8 * bit the.MethodImpl + 0x20 * bit the.TypeSpec + 0x400 * bit the.Assembly + 0x2000 * bit the.AssemblyRef + 0x100000 * bit the.GenericParam + 0x200000 * bit the.MethodSpec + 0x400000 * bit the.GenericParamConstraint in
      let below : low < 0x200000 = omega (arith, low_0, low_1, low_2, low_3, low_4, low_5, low_6, low_7, low_8, low_9) in
      let parts : valid rows ≡ low + 0x200000 * bit the.PropertyMap + 0x400000 * high = omega (arith, total) in
      bit_at_10 (valid rows) low (bit the.PropertyMap) high below low_10 parts
  told the.Property =
      let low : ℕ = 0x1 * bit the.Module + 0x2 * bit the.TypeRef + 0x4 * bit the.TypeDef + 0x10 * bit the.Field + 0x40 * bit the.MethodDef + 0x100 * bit the.Param + 0x200 * bit the.InterfaceImpl + 0x400 * bit the.MemberRef + 0x800 * bit the.Constant + 0x20000 * bit the.StandAloneSig + 0x200000 * bit the.PropertyMap in
      let high : ℕ = 0x1 * bit the.MethodSemantics + 0x2 * bit the.MethodImpl + 0x8 * bit the.TypeSpec + 0x100 * bit the.Assembly + 0x800 * bit the.AssemblyRef + 0x40000 * bit the.GenericParam + 0x80000 * bit the.MethodSpec + 0x100000 * bit the.GenericParamConstraint in
      let below : low < 0x800000 = omega (arith, low_0, low_1, low_2, low_3, low_4, low_5, low_6, low_7, low_8, low_9, low_10) in
      let parts : valid rows ≡ low + 0x800000 * bit the.Property + 0x1000000 * high = omega (arith, total) in
      bit_at_11 (valid rows) low (bit the.Property) high below low_11 parts
  told the.MethodSemantics =
      let low : ℕ = 0x1 * bit the.Module + 0x2 * bit the.TypeRef + 0x4 * bit the.TypeDef + 0x10 * bit the.Field + 0x40 * bit the.MethodDef + 0x100 * bit the.Param + 0x200 * bit the.InterfaceImpl + 0x400 * bit the.MemberRef + 0x800 * bit the.Constant + 0x20000 * bit the.StandAloneSig + 0x200000 * bit the.PropertyMap + 0x800000 * bit the.Property in
      let high : ℕ = 0x1 * bit the.MethodImpl + 0x4 * bit the.TypeSpec + 0x80 * bit the.Assembly + 0x400 * bit the.AssemblyRef + 0x20000 * bit the.GenericParam + 0x40000 * bit the.MethodSpec + 0x80000 * bit the.GenericParamConstraint in
      let below : low < 0x1000000 = omega (arith, low_0, low_1, low_2, low_3, low_4, low_5, low_6, low_7, low_8, low_9, low_10, low_11) in
      let parts : valid rows ≡ low + 0x1000000 * bit the.MethodSemantics + 0x2000000 * high = omega (arith, total) in
      bit_at_12 (valid rows) low (bit the.MethodSemantics) high below low_12 parts
  told the.MethodImpl =
      let low : ℕ = 0x1 * bit the.Module + 0x2 * bit the.TypeRef + 0x4 * bit the.TypeDef + 0x10 * bit the.Field + 0x40 * bit the.MethodDef + 0x100 * bit the.Param + 0x200 * bit the.InterfaceImpl + 0x400 * bit the.MemberRef + 0x800 * bit the.Constant + 0x20000 * bit the.StandAloneSig + 0x200000 * bit the.PropertyMap + 0x800000 * bit the.Property + 0x1000000 * bit the.MethodSemantics in
      let high : ℕ = 0x2 * bit the.TypeSpec + 0x40 * bit the.Assembly + 0x200 * bit the.AssemblyRef + 0x10000 * bit the.GenericParam + 0x20000 * bit the.MethodSpec + 0x40000 * bit the.GenericParamConstraint in
      let below : low < 0x2000000 = omega (arith, low_0, low_1, low_2, low_3, low_4, low_5, low_6, low_7, low_8, low_9, low_10, low_11, low_12) in
      let parts : valid rows ≡ low + 0x2000000 * bit the.MethodImpl + 0x4000000 * high = omega (arith, total) in
      bit_at_13 (valid rows) low (bit the.MethodImpl) high below low_13 parts
  told the.TypeSpec =
      let low : ℕ = 0x1 * bit the.Module + 0x2 * bit the.TypeRef + 0x4 * bit the.TypeDef + 0x10 * bit the.Field + 0x40 * bit the.MethodDef + 0x100 * bit the.Param + 0x200 * bit the.InterfaceImpl + 0x400 * bit the.MemberRef + 0x800 * bit the.Constant + 0x20000 * bit the.StandAloneSig + 0x200000 * bit the.PropertyMap + 0x800000 * bit the.Property + 0x1000000 * bit the.MethodSemantics + 0x2000000 * bit the.MethodImpl in
      let high : ℕ = 0x10 * bit the.Assembly + 0x80 * bit the.AssemblyRef + 0x4000 * bit the.GenericParam + 0x8000 * bit the.MethodSpec + 0x10000 * bit the.GenericParamConstraint in
      let below : low < 0x8000000 = omega (arith, low_0, low_1, low_2, low_3, low_4, low_5, low_6, low_7, low_8, low_9, low_10, low_11, low_12, low_13) in
      let parts : valid rows ≡ low + 0x8000000 * bit the.TypeSpec + 0x10000000 * high = omega (arith, total) in
      bit_at_14 (valid rows) low (bit the.TypeSpec) high below low_14 parts
  told the.Assembly =
      let low : ℕ = 0x1 * bit the.Module + 0x2 * bit the.TypeRef + 0x4 * bit the.TypeDef + 0x10 * bit the.Field + 0x40 * bit the.MethodDef + 0x100 * bit the.Param + 0x200 * bit the.InterfaceImpl + 0x400 * bit the.MemberRef + 0x800 * bit the.Constant + 0x20000 * bit the.StandAloneSig + 0x200000 * bit the.PropertyMap + 0x800000 * bit the.Property + 0x1000000 * bit the.MethodSemantics + 0x2000000 * bit the.MethodImpl + 0x8000000 * bit the.TypeSpec in
      let high : ℕ = 0x4 * bit the.AssemblyRef + 0x200 * bit the.GenericParam + 0x400 * bit the.MethodSpec + 0x800 * bit the.GenericParamConstraint in
      let below : low < 0x100000000 = omega (arith, low_0, low_1, low_2, low_3, low_4, low_5, low_6, low_7, low_8, low_9, low_10, low_11, low_12, low_13, low_14) in
      let parts : valid rows ≡ low + 0x100000000 * bit the.Assembly + 0x200000000 * high = omega (arith, total) in
      bit_at_15 (valid rows) low (bit the.Assembly) high below low_15 parts
  told the.AssemblyRef =
      let low : ℕ = 0x1 * bit the.Module + 0x2 * bit the.TypeRef + 0x4 * bit the.TypeDef + 0x10 * bit the.Field + 0x40 * bit the.MethodDef + 0x100 * bit the.Param + 0x200 * bit the.InterfaceImpl + 0x400 * bit the.MemberRef + 0x800 * bit the.Constant + 0x20000 * bit the.StandAloneSig + 0x200000 * bit the.PropertyMap + 0x800000 * bit the.Property + 0x1000000 * bit the.MethodSemantics + 0x2000000 * bit the.MethodImpl + 0x8000000 * bit the.TypeSpec + 0x100000000 * bit the.Assembly in
      let high : ℕ = 0x40 * bit the.GenericParam + 0x80 * bit the.MethodSpec + 0x100 * bit the.GenericParamConstraint in
      let below : low < 0x800000000 = omega (arith, low_0, low_1, low_2, low_3, low_4, low_5, low_6, low_7, low_8, low_9, low_10, low_11, low_12, low_13, low_14, low_15) in
      let parts : valid rows ≡ low + 0x800000000 * bit the.AssemblyRef + 0x1000000000 * high = omega (arith, total) in
      bit_at_16 (valid rows) low (bit the.AssemblyRef) high below low_16 parts
  told the.GenericParam =
      let low : ℕ = 0x1 * bit the.Module + 0x2 * bit the.TypeRef + 0x4 * bit the.TypeDef + 0x10 * bit the.Field + 0x40 * bit the.MethodDef + 0x100 * bit the.Param + 0x200 * bit the.InterfaceImpl + 0x400 * bit the.MemberRef + 0x800 * bit the.Constant + 0x20000 * bit the.StandAloneSig + 0x200000 * bit the.PropertyMap + 0x800000 * bit the.Property + 0x1000000 * bit the.MethodSemantics + 0x2000000 * bit the.MethodImpl + 0x8000000 * bit the.TypeSpec + 0x100000000 * bit the.Assembly + 0x800000000 * bit the.AssemblyRef in
      let high : ℕ = 0x1 * bit the.MethodSpec + 0x2 * bit the.GenericParamConstraint in
      let below : low < 0x40000000000 = omega (arith, low_0, low_1, low_2, low_3, low_4, low_5, low_6, low_7, low_8, low_9, low_10, low_11, low_12, low_13, low_14, low_15, low_16) in
      let parts : valid rows ≡ low + 0x40000000000 * bit the.GenericParam + 0x80000000000 * high = omega (arith, total) in
      bit_at_17 (valid rows) low (bit the.GenericParam) high below low_17 parts
  told the.MethodSpec =
      let low : ℕ = 0x1 * bit the.Module + 0x2 * bit the.TypeRef + 0x4 * bit the.TypeDef + 0x10 * bit the.Field + 0x40 * bit the.MethodDef + 0x100 * bit the.Param + 0x200 * bit the.InterfaceImpl + 0x400 * bit the.MemberRef + 0x800 * bit the.Constant + 0x20000 * bit the.StandAloneSig + 0x200000 * bit the.PropertyMap + 0x800000 * bit the.Property + 0x1000000 * bit the.MethodSemantics + 0x2000000 * bit the.MethodImpl + 0x8000000 * bit the.TypeSpec + 0x100000000 * bit the.Assembly + 0x800000000 * bit the.AssemblyRef + 0x40000000000 * bit the.GenericParam in
      let high : ℕ = 0x1 * bit the.GenericParamConstraint in
      let below : low < 0x80000000000 = omega (arith, low_0, low_1, low_2, low_3, low_4, low_5, low_6, low_7, low_8, low_9, low_10, low_11, low_12, low_13, low_14, low_15, low_16, low_17) in
      let parts : valid rows ≡ low + 0x80000000000 * bit the.MethodSpec + 0x100000000000 * high = omega (arith, total) in
      bit_at_18 (valid rows) low (bit the.MethodSpec) high below low_18 parts
  told the.GenericParamConstraint =
      let low : ℕ = 0x1 * bit the.Module + 0x2 * bit the.TypeRef + 0x4 * bit the.TypeDef + 0x10 * bit the.Field + 0x40 * bit the.MethodDef + 0x100 * bit the.Param + 0x200 * bit the.InterfaceImpl + 0x400 * bit the.MemberRef + 0x800 * bit the.Constant + 0x20000 * bit the.StandAloneSig + 0x200000 * bit the.PropertyMap + 0x800000 * bit the.Property + 0x1000000 * bit the.MethodSemantics + 0x2000000 * bit the.MethodImpl + 0x8000000 * bit the.TypeSpec + 0x100000000 * bit the.Assembly + 0x800000000 * bit the.AssemblyRef + 0x40000000000 * bit the.GenericParam + 0x80000000000 * bit the.MethodSpec in
      let high : ℕ = 0 in
      let below : low < 0x100000000000 = omega (arith, low_0, low_1, low_2, low_3, low_4, low_5, low_6, low_7, low_8, low_9, low_10, low_11, low_12, low_13, low_14, low_15, low_16, low_17, low_18) in
      let parts : valid rows ≡ low + 0x100000000000 * bit the.GenericParamConstraint + 0x200000000000 * high = omega (arith, total) in
      bit_at_19 (valid rows) low (bit the.GenericParamConstraint) high below low_19 parts

  there : (table : Table) → (rows table == 0) ≡ false → has_table (valid rows) table ≡ true
  unfolding bit
  there table s = let one : valid rows / 2 ^ table_number table % 2 ≡ 1 = told table ∙ (rw s refl) in ap (λ (n : ℕ). n == 1) one

  absent : (table : Table) → (rows table == 0) ≡ true → has_table (valid rows) table ≡ false
  unfolding bit
  absent table s = let none : valid rows / 2 ^ table_number table % 2 ≡ 0 = told table ∙ (rw s refl) in ap (λ (n : ℕ). n == 1) none

  -- ---- the numbers, table by table

  zero_is : (n : ℕ) → (n == 0) ≡ true → n ≡ 0
  zero_is n e = eqb-true n 0 e

  some_is : (n : ℕ) → (n == 0) ≡ false → 1 ≤ n
  some_is n e = let other : n ≡ 0 → ⊥ = eqb-false n 0 e in omega (arith, other)

  stands : (front more stream : List ℕ) (n : ℕ) → n < 2 ^ 32 → stream ≡ front ++ (little_endian 4 n ++ more) → peeked 4 (length front) stream ≡ n
  stands front more stream n small e =
      let bytes : List ℕ = little_endian 4 n in
      let long : length bytes ≡ 4 = length-little_endian 4 n in
      let room : length front + 4 ≤ length stream = omega (arith, ap length e, length-append front (bytes ++ more), length-append bytes more, long) in
      let back : take 4 (drop (length front) stream) ≡ bytes = ap (λ (x : List ℕ). take 4 (drop (length front) x)) e ∙ ap (take 4) (drop_at front (bytes ++ more) (length front) refl) ∙ take_at bytes more 4 long in
      rw (le-ltb (length stream) (length front + 4) room) (ap value_of back ∙ value_of-little_endian 4 n small)

  counts_back : (all : List Table) (front rest stream : List ℕ) → AllByRecursion (λ table. rows table < 2 ^ 32) all → stream ≡ front ++ (bytes_of (flat_map (count_field rows) all) ++ rest)
      → counts_in (valid rows) (length front) all stream ≡ map rows all
  unfolding counts_in
  counts_back [] front rest stream h e = refl
  counts_back (table ∷ all) front rest stream h e =
      let more : List Field = flat_map (count_field rows) all in
      elim (which (rows table == 0)) [
        | inl s ↦
            let none : count_field rows table ≡ [] = rw s refl in
            let is : stream ≡ front ++ (bytes_of more ++ rest) = e ∙ ap (λ (x : List Field). front ++ (bytes_of (x ++ more) ++ rest)) none in
            let ih = counts_back all front rest stream h.1 is in
            let here : count_at (valid rows) (length front) table stream ≡ rows table = rw (absent table s) (sym (zero_is (rows table) s)) in
            let next : place_after (valid rows) (length front) table ≡ length front = rw (absent table s) refl in
            (λ i. here i ∷ counts_in (valid rows) (next i) all stream) ∙ ap (λ (x : List ℕ). rows table ∷ x) ih
        | inr s ↦
            let bytes : List ℕ = little_endian 4 (rows table) in
            let others : List ℕ = bytes_of more ++ rest in
            let one : count_field rows table ≡ number 4 (rows table) ∷ [] = rw s refl in
            let is : stream ≡ front ++ (bytes ++ others) =
            e ∙ ap (λ (x : List Field). front ++ (bytes_of (x ++ more) ++ rest)) one ∙ ap (λ (x : List ℕ). front ++ x) (append_assoc bytes (bytes_of more) rest) in
            let long : length (front ++ bytes) ≡ length front + 4 = omega (arith, length-append front bytes, length-little_endian 4 (rows table)) in
            let ih = counts_back all (front ++ bytes) rest stream h.1 (is ∙ sym (append_assoc front bytes others)) in
            let read : peeked 4 (length front) stream ≡ rows table = stands front others stream (rows table) h.0 is in
            let most : max (rows table) 1 ≡ rows table = omega (arith, some_is (rows table) s) in
            let here : count_at (valid rows) (length front) table stream ≡ rows table = rw (there table s) (ap (λ (n : ℕ). max n 1) read ∙ most) in
            let next : place_after (valid rows) (length front) table ≡ length (front ++ bytes) = rw (there table s) (sym long) in
            (λ i. here i ∷ counts_in (valid rows) (next i) all stream) ∙ ap (λ (x : List ℕ). rows table ∷ x) ih
      ]

  at_position : (table : Table) → table_rows (map rows tables) table ≡ rows table
  at_position the.Module = refl
  at_position the.TypeRef = refl
  at_position the.TypeDef = refl
  at_position the.Field = refl
  at_position the.MethodDef = refl
  at_position the.Param = refl
  at_position the.InterfaceImpl = refl
  at_position the.MemberRef = refl
  at_position the.Constant = refl
  at_position the.StandAloneSig = refl
  at_position the.PropertyMap = refl
  at_position the.Property = refl
  at_position the.MethodSemantics = refl
  at_position the.MethodImpl = refl
  at_position the.TypeSpec = refl
  at_position the.Assembly = refl
  at_position the.AssemblyRef = refl
  at_position the.GenericParam = refl
  at_position the.MethodSpec = refl
  at_position the.GenericParamConstraint = refl

  small_all : ((table : Table) → rows table < 2 ^ 32) → (all : List Table) → AllByRecursion (λ table. rows table < 2 ^ 32) all
  small_all h [] = tt
  small_all h (table ∷ all) = (h table, small_all h all)

  valid_small : valid rows < 2 ^ 64
  valid_small = omega (arith, total, low_0, low_1, low_2, low_3, low_4, low_5, low_6, low_7, low_8, low_9, low_10, low_11, low_12, low_13, low_14, low_15, low_16, low_17, low_18, low_19)

wide_low : (bit size : ℕ) → wide_bit bit size ≤ bit
wide_low bit size =
    elim (which (nat_lt size 0x10000)) [
      | inl s ↦ rw s (omega arith)
      | inr s ↦ rw s (omega arith)
    ]

fits_join : (a b : List Field) → AllByRecursion FitsField a → AllByRecursion FitsField b → AllByRecursion FitsField (a ++ b)
fits_join [] b h k = k
fits_join (f ∷ a) b h k = (h.0, fits_join a b h.1 k)

count_fits : (none : Bool) (n : ℕ) → n < 2 ^ 32 → AllByRecursion FitsField (if none then [] else number 4 n ∷ [])
count_fits true n h = tt
count_fits false n h = (h, tt)

counts_fit : (rows : Table → ℕ) → ((table : Table) → rows table < 2 ^ 32) → (all : List Table) → AllByRecursion FitsField (flat_map (count_field rows) all)
counts_fit rows h [] = tt
counts_fit rows h (table ∷ all) = fits_join (count_field rows table) (flat_map (count_field rows) all) (count_fits (rows table == 0) (rows table) (h table)) (counts_fit rows h all)

-- the fields of the header are within their widths
pub header_fits : (s : Sizes) → ((table : Table) → s.rows table < 2 ^ 32) → AllByRecursion FitsField (tables_header s)
header_fits s h =
    let low : heap_sizes s < 256 = omega (arith, wide_low 1 s.strings, wide_low 2 GUID_SIZE, wide_low 4 s.blobs) in
    (omega arith, (omega arith, (omega arith, (low, (omega arith, (valid_small s.rows, (omega arith, counts_fit s.rows h tables)))))))

abbrev fixed : Sizes → List Field
fixed s = number 4 0 ∷ number 1 2 ∷ number 1 0 ∷ number 1 (heap_sizes s) ∷ number 1 1 ∷ number 8 (valid s.rows) ∷ number 8 SORTED ∷ []

pub rows_told : (s : Sizes) (stream rest : List ℕ) → ((table : Table) → s.rows table < 2 ^ 32) → stream ≡ bytes_of (tables_header s) ++ rest → (table : Table) → rows_in stream table ≡ s.rows table
rows_told s stream rest h e table =
    let counts : List Field = flat_map (count_field s.rows) tables in
    let spelled = subst (λ x. Spells (tables_header s) x rest) (sym e) (bytes_of-spells (tables_header s) rest (header_fits s h)) in
    let bits : peeked 8 8 stream ≡ valid s.rows = peeked-stands (tables_header s) stream rest 5 8 8 (valid s.rows) spelled refl refl in
    let front : List ℕ = bytes_of (fixed s) in
    let parts : stream ≡ front ++ (bytes_of counts ++ rest) = e ∙ ap (λ (x : List ℕ). x ++ rest) (bytes_of-append (fixed s) counts) ∙ append_assoc front (bytes_of counts) rest in
    let read : counts_in (peeked 8 8 stream) 24 tables stream ≡ map s.rows tables = ap (λ (v : ℕ). counts_in v 24 tables stream) bits ∙ counts_back s.rows tables front rest stream (small_all s.rows h tables) parts in
    ap (λ (x : List ℕ). table_rows x table) read ∙ at_position s.rows table
