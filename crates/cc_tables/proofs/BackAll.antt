-- The rows of a module are read again from the bytes that its columns have.
use Rattle.std.proofs.Common.{◌≡◌, ℕ, ◌+◌, ◌^◌, ◌≤◌, ◌<◌, List, [], ◌∷◌, ◌++◌, length, map, refl, sym, ap, subst, ◌∙◌, append_assoc, arith}
use Rattle.std.specs.List.{flat_map, AllByRecursion, sum}
use Rattle.std.proofs.lemmas.List.{append-nil, length-append}
use Rattle.std.proofs.lemmas.List.Sums.{sum_by-cons}
use Rattle.std.proofs.lemmas.Grind.{flat_map-append}
use Rattle.cc_module.specs.declared.table.Table.{Table}
use Rattle.cc_module.specs.declared.table.Table.TheVariants as the
use Rattle.cc_module.specs.declared.table.Column.{Column}
use Rattle.cc_module.specs.declared.module.Module.{Module}
use Rattle.cc_module.specs.Rows as of
use Rattle.cc_module.specs.Rows.{Cell, all_cells, early_cells, late_cells, row_count}
use Rattle.cc_module.specs.Metadata.{Sizes, column_width, cell_bytes, tables}
use Rattle.cc_tables.specs.Columns.{columns_of, row_size, table_size, rows_size}
use Rattle.cc_tables.specs.Reading.{tables_numbers, AreRows}
use Rattle.cc_tables.proofs.Back.{IsSmall, ctx, sizes, strings, blobs, Known, next_table, next_long, row_long}
use Rattle.cc_tables.proofs.Signed.{all_both}
use Rattle.cc_tables.proofs.Splitting.{width_some}
use Rattle.cc_tables.proofs.Written.{from_type_ref, from_type_def, from_field, from_method_def, from_param, from_interface_impl, from_member_ref, from_constant, from_property_map, from_property, from_method_semantics, from_method_impl, from_type_spec, from_assembly, from_assembly_ref, from_generic_param, from_method_spec, from_generic_param_constraint}

-- ---- the columns of all tables, each before those that follow

abbrev after_19 : Module → List Cell
after_19 m = []

abbrev after_18 : Module → List Cell
after_18 m = flat_map of.generic_param_constraint_cells m.generic_param_constraints ++ after_19 m

abbrev after_17 : Module → List Cell
after_17 m = flat_map of.method_spec_cells m.method_specs ++ after_18 m

abbrev after_16 : Module → List Cell
after_16 m = flat_map of.generic_param_cells m.generic_params ++ after_17 m

abbrev after_15 : Module → List Cell
after_15 m = flat_map of.assembly_ref_cells m.assembly_refs ++ after_16 m

abbrev after_14 : Module → List Cell
after_14 m = flat_map of.assembly_cells m.assemblies ++ after_15 m

abbrev after_13 : Module → List Cell
after_13 m = flat_map of.type_spec_cells m.type_specs ++ after_14 m

abbrev after_12 : Module → List Cell
after_12 m = flat_map of.method_impl_cells m.method_impls ++ after_13 m

abbrev after_11 : Module → List Cell
after_11 m = flat_map of.method_semantics_cells m.method_semantics ++ after_12 m

abbrev after_10 : Module → List Cell
after_10 m = flat_map of.property_cells m.properties ++ after_11 m

abbrev after_9 : Module → List Cell
after_9 m = flat_map of.property_map_cells m.property_maps ++ after_10 m

abbrev after_8 : Module → List Cell
after_8 m = flat_map of.stand_alone_sig_cells m.stand_alone_sigs ++ after_9 m

abbrev after_7 : Module → List Cell
after_7 m = flat_map of.constant_cells m.constants ++ after_8 m

abbrev after_6 : Module → List Cell
after_6 m = flat_map of.member_ref_cells m.member_refs ++ after_7 m

abbrev after_5 : Module → List Cell
after_5 m = flat_map of.interface_impl_cells m.interface_impls ++ after_6 m

abbrev after_4 : Module → List Cell
after_4 m = flat_map of.param_cells m.params ++ after_5 m

abbrev after_3 : Module → List Cell
after_3 m = flat_map of.method_def_cells m.methods ++ after_4 m

abbrev after_2 : Module → List Cell
after_2 m = flat_map of.field_cells m.fields ++ after_3 m

abbrev after_1 : Module → List Cell
after_1 m = flat_map of.type_def_cells m.type_defs ++ after_2 m

abbrev after_0 : Module → List Cell
after_0 m = flat_map of.type_ref_cells m.type_refs ++ after_1 m

abbrev all_nested : Module → List Cell
all_nested m = flat_map of.module_cells m.modules ++ after_0 m

nested : (m : Module) → all_cells m ≡ all_nested m
nested m =
    let p19 : from_generic_param_constraint m ≡ after_18 m = sym (append-nil (flat_map of.generic_param_constraint_cells m.generic_param_constraints)) in
    let p18 : from_method_spec m ≡ after_17 m = ap (λ (x : List Cell). flat_map of.method_spec_cells m.method_specs ++ x) p19 in
    let p17 : from_generic_param m ≡ after_16 m = ap (λ (x : List Cell). flat_map of.generic_param_cells m.generic_params ++ x) p18 in
    let p16 : from_assembly_ref m ≡ after_15 m = ap (λ (x : List Cell). flat_map of.assembly_ref_cells m.assembly_refs ++ x) p17 in
    let p15 : from_assembly m ≡ after_14 m = ap (λ (x : List Cell). flat_map of.assembly_cells m.assemblies ++ x) p16 in
    let p14 : from_type_spec m ≡ after_13 m = ap (λ (x : List Cell). flat_map of.type_spec_cells m.type_specs ++ x) p15 in
    let p13 : from_method_impl m ≡ after_12 m = ap (λ (x : List Cell). flat_map of.method_impl_cells m.method_impls ++ x) p14 in
    let p12 : from_method_semantics m ≡ after_11 m = ap (λ (x : List Cell). flat_map of.method_semantics_cells m.method_semantics ++ x) p13 in
    let p11 : from_property m ≡ after_10 m = ap (λ (x : List Cell). flat_map of.property_cells m.properties ++ x) p12 in
    let p10 : from_property_map m ≡ after_9 m = ap (λ (x : List Cell). flat_map of.property_map_cells m.property_maps ++ x) p11 in
    let p9 : late_cells m ≡ after_8 m = ap (λ (x : List Cell). flat_map of.stand_alone_sig_cells m.stand_alone_sigs ++ x) p10 in
    let p8 : from_constant m ++ late_cells m ≡ after_7 m = ap (λ (x : List Cell). flat_map of.constant_cells m.constants ++ x) p9 in
    let p7 : from_member_ref m ++ late_cells m ≡ after_6 m = append_assoc (flat_map of.member_ref_cells m.member_refs) (from_constant m) (late_cells m) ∙ ap (λ (x : List Cell). flat_map of.member_ref_cells m.member_refs ++ x) p8 in
    let p6 : from_interface_impl m ++ late_cells m ≡ after_5 m = append_assoc (flat_map of.interface_impl_cells m.interface_impls) (from_member_ref m) (late_cells m) ∙ ap (λ (x : List Cell). flat_map of.interface_impl_cells m.interface_impls ++ x) p7 in
    let p5 : from_param m ++ late_cells m ≡ after_4 m = append_assoc (flat_map of.param_cells m.params) (from_interface_impl m) (late_cells m) ∙ ap (λ (x : List Cell). flat_map of.param_cells m.params ++ x) p6 in
    let p4 : from_method_def m ++ late_cells m ≡ after_3 m = append_assoc (flat_map of.method_def_cells m.methods) (from_param m) (late_cells m) ∙ ap (λ (x : List Cell). flat_map of.method_def_cells m.methods ++ x) p5 in
    let p3 : from_field m ++ late_cells m ≡ after_2 m = append_assoc (flat_map of.field_cells m.fields) (from_method_def m) (late_cells m) ∙ ap (λ (x : List Cell). flat_map of.field_cells m.fields ++ x) p4 in
    let p2 : from_type_def m ++ late_cells m ≡ after_1 m = append_assoc (flat_map of.type_def_cells m.type_defs) (from_field m) (late_cells m) ∙ ap (λ (x : List Cell). flat_map of.type_def_cells m.type_defs ++ x) p3 in
    let p1 : from_type_ref m ++ late_cells m ≡ after_0 m = append_assoc (flat_map of.type_ref_cells m.type_refs) (from_type_def m) (late_cells m) ∙ ap (λ (x : List Cell). flat_map of.type_ref_cells m.type_refs ++ x) p2 in
    append_assoc (flat_map of.module_cells m.modules) (from_type_ref m) (late_cells m) ∙ ap (λ (x : List Cell). flat_map of.module_cells m.modules ++ x) p1

abbrev tables_19 : List Table
tables_19 = []

abbrev tables_18 : List Table
tables_18 = the.GenericParamConstraint ∷ tables_19

abbrev tables_17 : List Table
tables_17 = the.MethodSpec ∷ tables_18

abbrev tables_16 : List Table
tables_16 = the.GenericParam ∷ tables_17

abbrev tables_15 : List Table
tables_15 = the.AssemblyRef ∷ tables_16

abbrev tables_14 : List Table
tables_14 = the.Assembly ∷ tables_15

abbrev tables_13 : List Table
tables_13 = the.TypeSpec ∷ tables_14

abbrev tables_12 : List Table
tables_12 = the.MethodImpl ∷ tables_13

abbrev tables_11 : List Table
tables_11 = the.MethodSemantics ∷ tables_12

abbrev tables_10 : List Table
tables_10 = the.Property ∷ tables_11

abbrev tables_9 : List Table
tables_9 = the.PropertyMap ∷ tables_10

abbrev tables_8 : List Table
tables_8 = the.StandAloneSig ∷ tables_9

abbrev tables_7 : List Table
tables_7 = the.Constant ∷ tables_8

abbrev tables_6 : List Table
tables_6 = the.MemberRef ∷ tables_7

abbrev tables_5 : List Table
tables_5 = the.InterfaceImpl ∷ tables_6

abbrev tables_4 : List Table
tables_4 = the.Param ∷ tables_5

abbrev tables_3 : List Table
tables_3 = the.MethodDef ∷ tables_4

abbrev tables_2 : List Table
tables_2 = the.Field ∷ tables_3

abbrev tables_1 : List Table
tables_1 = the.TypeDef ∷ tables_2

abbrev tables_0 : List Table
tables_0 = the.TypeRef ∷ tables_1

-- ---- an index into #GUID is small

small_each : {R : Type 0} (cells : R → List Cell) → ((r : R) → AllByRecursion IsSmall (cells r)) → (items : List R) → AllByRecursion IsSmall (flat_map cells items)
small_each cells h [] = tt
small_each cells h (r ∷ items) = all_both IsSmall (cells r) (flat_map cells items) (h r) (small_each cells h items)

pub all_small : (m : Module) → AllByRecursion IsSmall (all_cells m)
all_small m =
    let s0 = small_each of.module_cells (λ r. (tt, (tt, (omega arith, (omega arith, (omega arith, tt)))))) m.modules in
    let s1 = small_each of.type_ref_cells (λ r. (tt, (tt, (tt, tt)))) m.type_refs in
    let s2 = small_each of.type_def_cells (λ r. (tt, (tt, (tt, (tt, (tt, (tt, tt))))))) m.type_defs in
    let s3 = small_each of.field_cells (λ r. (tt, (tt, (tt, tt)))) m.fields in
    let s4 = small_each of.method_def_cells (λ r. (tt, (tt, (tt, (tt, (tt, (tt, tt))))))) m.methods in
    let s5 = small_each of.param_cells (λ r. (tt, (tt, (tt, tt)))) m.params in
    let s6 = small_each of.interface_impl_cells (λ r. (tt, (tt, tt))) m.interface_impls in
    let s7 = small_each of.member_ref_cells (λ r. (tt, (tt, (tt, tt)))) m.member_refs in
    let s8 = small_each of.constant_cells (λ r. (tt, (tt, (tt, (tt, tt))))) m.constants in
    let s9 = small_each of.stand_alone_sig_cells (λ r. (tt, tt)) m.stand_alone_sigs in
    let s10 = small_each of.property_map_cells (λ r. (tt, (tt, tt))) m.property_maps in
    let s11 = small_each of.property_cells (λ r. (tt, (tt, (tt, tt)))) m.properties in
    let s12 = small_each of.method_semantics_cells (λ r. (tt, (tt, (tt, tt)))) m.method_semantics in
    let s13 = small_each of.method_impl_cells (λ r. (tt, (tt, (tt, tt)))) m.method_impls in
    let s14 = small_each of.type_spec_cells (λ r. (tt, tt)) m.type_specs in
    let s15 = small_each of.assembly_cells (λ r. (tt, (tt, (tt, (tt, (tt, (tt, (tt, (tt, (tt, tt)))))))))) m.assemblies in
    let s16 = small_each of.assembly_ref_cells (λ r. (tt, (tt, (tt, (tt, (tt, (tt, (tt, (tt, (tt, tt)))))))))) m.assembly_refs in
    let s17 = small_each of.generic_param_cells (λ r. (tt, (tt, (tt, (tt, tt))))) m.generic_params in
    let s18 = small_each of.method_spec_cells (λ r. (tt, (tt, tt))) m.method_specs in
    let s19 = small_each of.generic_param_constraint_cells (λ r. (tt, (tt, tt))) m.generic_param_constraints in
    let l18 = all_both IsSmall (flat_map of.method_spec_cells m.method_specs) (from_generic_param_constraint m) s18 s19 in
    let l17 = all_both IsSmall (flat_map of.generic_param_cells m.generic_params) (from_method_spec m) s17 l18 in
    let l16 = all_both IsSmall (flat_map of.assembly_ref_cells m.assembly_refs) (from_generic_param m) s16 l17 in
    let l15 = all_both IsSmall (flat_map of.assembly_cells m.assemblies) (from_assembly_ref m) s15 l16 in
    let l14 = all_both IsSmall (flat_map of.type_spec_cells m.type_specs) (from_assembly m) s14 l15 in
    let l13 = all_both IsSmall (flat_map of.method_impl_cells m.method_impls) (from_type_spec m) s13 l14 in
    let l12 = all_both IsSmall (flat_map of.method_semantics_cells m.method_semantics) (from_method_impl m) s12 l13 in
    let l11 = all_both IsSmall (flat_map of.property_cells m.properties) (from_method_semantics m) s11 l12 in
    let l10 = all_both IsSmall (flat_map of.property_map_cells m.property_maps) (from_property m) s10 l11 in
    let l9 = all_both IsSmall (flat_map of.stand_alone_sig_cells m.stand_alone_sigs) (from_property_map m) s9 l10 in
    let l7 = all_both IsSmall (flat_map of.member_ref_cells m.member_refs) (from_constant m) s7 s8 in
    let l6 = all_both IsSmall (flat_map of.interface_impl_cells m.interface_impls) (from_member_ref m) s6 l7 in
    let l5 = all_both IsSmall (flat_map of.param_cells m.params) (from_interface_impl m) s5 l6 in
    let l4 = all_both IsSmall (flat_map of.method_def_cells m.methods) (from_param m) s4 l5 in
    let l3 = all_both IsSmall (flat_map of.field_cells m.fields) (from_method_def m) s3 l4 in
    let l2 = all_both IsSmall (flat_map of.type_def_cells m.type_defs) (from_field m) s2 l3 in
    let l1 = all_both IsSmall (flat_map of.type_ref_cells m.type_refs) (from_type_def m) s1 l2 in
    let l0 = all_both IsSmall (flat_map of.module_cells m.modules) (from_type_ref m) s0 l1 in
    all_both IsSmall (early_cells m) (late_cells m) l0 l9

-- ---- a row has at least one byte

first_some : (s : Sizes) (columns : List Column) → 0 < length columns → 1 ≤ sum (map (column_width s) columns)
first_some s [] h = absurd (omega (arith, h))
first_some s (column ∷ columns) h = omega (arith, width_some s column, sum_by-cons (λ (x : ℕ). x) (column_width s column) (map (column_width s) columns))

module _ (m : Module) where
  abbrev all : List Cell
  all = all_cells m

  abbrev bytes_in : List Cell → List ℕ
  bytes_in cells = flat_map (cell_bytes (ctx all (row_count m))) cells

  rows_few : {R : Type 0} (cells : R → List Cell) (size : ℕ) → 1 ≤ size → ((r : R) → length (bytes_in (cells r)) ≡ size) → (items : List R) → length items ≤ length (bytes_in (flat_map cells items))
  rows_few cells size some long [] = omega arith
  rows_few cells size some long (r ∷ items) =
      omega (arith, some, long r, rows_few cells size some long items, ap length (flat_map-append (cell_bytes (ctx all (row_count m))) (cells r) (flat_map cells items)), length-append (bytes_in (cells r)) (bytes_in (flat_map cells items)))

  joined_long : (a b : List Cell) → length (bytes_in (a ++ b)) ≡ length (bytes_in a) + length (bytes_in b)
  joined_long a b = ap length (flat_map-append (cell_bytes (ctx all (row_count m))) a b) ∙ length-append (bytes_in a) (bytes_in b)

  few_0 : length m.modules ≤ length (bytes_in (flat_map of.module_cells m.modules))
  few_0 =
      rows_few of.module_cells (row_size (sizes all (row_count m)) the.Module) (first_some (sizes all (row_count m)) (columns_of the.Module) (omega arith)) (row_long all (row_count m) the.Module of.module_cells (λ r. (r, refl)) (λ r. refl)) m.modules

  few_1 : length m.type_refs ≤ length (bytes_in (flat_map of.type_ref_cells m.type_refs))
  few_1 =
      rows_few of.type_ref_cells (row_size (sizes all (row_count m)) the.TypeRef) (first_some (sizes all (row_count m)) (columns_of the.TypeRef) (omega arith)) (row_long all (row_count m) the.TypeRef of.type_ref_cells (λ r. (r, refl)) (λ r. refl)) m.type_refs

  few_2 : length m.type_defs ≤ length (bytes_in (flat_map of.type_def_cells m.type_defs))
  few_2 =
      rows_few of.type_def_cells (row_size (sizes all (row_count m)) the.TypeDef) (first_some (sizes all (row_count m)) (columns_of the.TypeDef) (omega arith)) (row_long all (row_count m) the.TypeDef of.type_def_cells (λ r. (r, refl)) (λ r. refl)) m.type_defs

  few_3 : length m.fields ≤ length (bytes_in (flat_map of.field_cells m.fields))
  few_3 =
      rows_few of.field_cells (row_size (sizes all (row_count m)) the.Field) (first_some (sizes all (row_count m)) (columns_of the.Field) (omega arith)) (row_long all (row_count m) the.Field of.field_cells (λ r. (r, refl)) (λ r. refl)) m.fields

  few_4 : length m.methods ≤ length (bytes_in (flat_map of.method_def_cells m.methods))
  few_4 =
      rows_few of.method_def_cells (row_size (sizes all (row_count m)) the.MethodDef) (first_some (sizes all (row_count m)) (columns_of the.MethodDef) (omega arith)) (row_long all (row_count m) the.MethodDef of.method_def_cells (λ r. (r, refl)) (λ r. refl)) m.methods

  few_5 : length m.params ≤ length (bytes_in (flat_map of.param_cells m.params))
  few_5 =
      rows_few of.param_cells (row_size (sizes all (row_count m)) the.Param) (first_some (sizes all (row_count m)) (columns_of the.Param) (omega arith)) (row_long all (row_count m) the.Param of.param_cells (λ r. (r, refl)) (λ r. refl)) m.params

  few_6 : length m.interface_impls ≤ length (bytes_in (flat_map of.interface_impl_cells m.interface_impls))
  few_6 =
      rows_few of.interface_impl_cells (row_size (sizes all (row_count m)) the.InterfaceImpl) (first_some (sizes all (row_count m)) (columns_of the.InterfaceImpl) (omega arith)) (row_long all (row_count m) the.InterfaceImpl of.interface_impl_cells (λ r. (r, refl)) (λ r. refl)) m.interface_impls

  few_7 : length m.member_refs ≤ length (bytes_in (flat_map of.member_ref_cells m.member_refs))
  few_7 =
      rows_few of.member_ref_cells (row_size (sizes all (row_count m)) the.MemberRef) (first_some (sizes all (row_count m)) (columns_of the.MemberRef) (omega arith)) (row_long all (row_count m) the.MemberRef of.member_ref_cells (λ r. (r, refl)) (λ r. refl)) m.member_refs

  few_8 : length m.constants ≤ length (bytes_in (flat_map of.constant_cells m.constants))
  few_8 =
      rows_few of.constant_cells (row_size (sizes all (row_count m)) the.Constant) (first_some (sizes all (row_count m)) (columns_of the.Constant) (omega arith)) (row_long all (row_count m) the.Constant of.constant_cells (λ r. (r, refl)) (λ r. refl)) m.constants

  few_9 : length m.stand_alone_sigs ≤ length (bytes_in (flat_map of.stand_alone_sig_cells m.stand_alone_sigs))
  few_9 =
      rows_few of.stand_alone_sig_cells (row_size (sizes all (row_count m)) the.StandAloneSig) (first_some (sizes all (row_count m)) (columns_of the.StandAloneSig) (omega arith)) (row_long all (row_count m) the.StandAloneSig of.stand_alone_sig_cells (λ r. (r, refl)) (λ r. refl)) m.stand_alone_sigs

  few_10 : length m.property_maps ≤ length (bytes_in (flat_map of.property_map_cells m.property_maps))
  few_10 =
      rows_few of.property_map_cells (row_size (sizes all (row_count m)) the.PropertyMap) (first_some (sizes all (row_count m)) (columns_of the.PropertyMap) (omega arith)) (row_long all (row_count m) the.PropertyMap of.property_map_cells (λ r. (r, refl)) (λ r. refl)) m.property_maps

  few_11 : length m.properties ≤ length (bytes_in (flat_map of.property_cells m.properties))
  few_11 =
      rows_few of.property_cells (row_size (sizes all (row_count m)) the.Property) (first_some (sizes all (row_count m)) (columns_of the.Property) (omega arith)) (row_long all (row_count m) the.Property of.property_cells (λ r. (r, refl)) (λ r. refl)) m.properties

  few_12 : length m.method_semantics ≤ length (bytes_in (flat_map of.method_semantics_cells m.method_semantics))
  few_12 =
      rows_few of.method_semantics_cells (row_size (sizes all (row_count m)) the.MethodSemantics) (first_some (sizes all (row_count m)) (columns_of the.MethodSemantics) (omega arith)) (row_long all (row_count m) the.MethodSemantics of.method_semantics_cells (λ r. (r, refl)) (λ r. refl)) m.method_semantics

  few_13 : length m.method_impls ≤ length (bytes_in (flat_map of.method_impl_cells m.method_impls))
  few_13 =
      rows_few of.method_impl_cells (row_size (sizes all (row_count m)) the.MethodImpl) (first_some (sizes all (row_count m)) (columns_of the.MethodImpl) (omega arith)) (row_long all (row_count m) the.MethodImpl of.method_impl_cells (λ r. (r, refl)) (λ r. refl)) m.method_impls

  few_14 : length m.type_specs ≤ length (bytes_in (flat_map of.type_spec_cells m.type_specs))
  few_14 =
      rows_few of.type_spec_cells (row_size (sizes all (row_count m)) the.TypeSpec) (first_some (sizes all (row_count m)) (columns_of the.TypeSpec) (omega arith)) (row_long all (row_count m) the.TypeSpec of.type_spec_cells (λ r. (r, refl)) (λ r. refl)) m.type_specs

  few_15 : length m.assemblies ≤ length (bytes_in (flat_map of.assembly_cells m.assemblies))
  few_15 =
      rows_few of.assembly_cells (row_size (sizes all (row_count m)) the.Assembly) (first_some (sizes all (row_count m)) (columns_of the.Assembly) (omega arith)) (row_long all (row_count m) the.Assembly of.assembly_cells (λ r. (r, refl)) (λ r. refl)) m.assemblies

  few_16 : length m.assembly_refs ≤ length (bytes_in (flat_map of.assembly_ref_cells m.assembly_refs))
  few_16 =
      rows_few of.assembly_ref_cells (row_size (sizes all (row_count m)) the.AssemblyRef) (first_some (sizes all (row_count m)) (columns_of the.AssemblyRef) (omega arith)) (row_long all (row_count m) the.AssemblyRef of.assembly_ref_cells (λ r. (r, refl)) (λ r. refl)) m.assembly_refs

  few_17 : length m.generic_params ≤ length (bytes_in (flat_map of.generic_param_cells m.generic_params))
  few_17 =
      rows_few of.generic_param_cells (row_size (sizes all (row_count m)) the.GenericParam) (first_some (sizes all (row_count m)) (columns_of the.GenericParam) (omega arith)) (row_long all (row_count m) the.GenericParam of.generic_param_cells (λ r. (r, refl)) (λ r. refl)) m.generic_params

  few_18 : length m.method_specs ≤ length (bytes_in (flat_map of.method_spec_cells m.method_specs))
  few_18 =
      rows_few of.method_spec_cells (row_size (sizes all (row_count m)) the.MethodSpec) (first_some (sizes all (row_count m)) (columns_of the.MethodSpec) (omega arith)) (row_long all (row_count m) the.MethodSpec of.method_spec_cells (λ r. (r, refl)) (λ r. refl)) m.method_specs

  few_19 : length m.generic_param_constraints ≤ length (bytes_in (flat_map of.generic_param_constraint_cells m.generic_param_constraints))
  few_19 =
      rows_few of.generic_param_constraint_cells (row_size (sizes all (row_count m)) the.GenericParamConstraint) (first_some (sizes all (row_count m)) (columns_of the.GenericParamConstraint) (omega arith)) (row_long all (row_count m) the.GenericParamConstraint of.generic_param_constraint_cells (λ r. (r, refl)) (λ r. refl)) m.generic_param_constraints

  split_0 : length (bytes_in (all_nested m)) ≡ length (bytes_in (flat_map of.module_cells m.modules)) + length (bytes_in (after_0 m))
  split_0 = joined_long (flat_map of.module_cells m.modules) (after_0 m)

  split_1 : length (bytes_in (after_0 m)) ≡ length (bytes_in (flat_map of.type_ref_cells m.type_refs)) + length (bytes_in (after_1 m))
  split_1 = joined_long (flat_map of.type_ref_cells m.type_refs) (after_1 m)

  split_2 : length (bytes_in (after_1 m)) ≡ length (bytes_in (flat_map of.type_def_cells m.type_defs)) + length (bytes_in (after_2 m))
  split_2 = joined_long (flat_map of.type_def_cells m.type_defs) (after_2 m)

  split_3 : length (bytes_in (after_2 m)) ≡ length (bytes_in (flat_map of.field_cells m.fields)) + length (bytes_in (after_3 m))
  split_3 = joined_long (flat_map of.field_cells m.fields) (after_3 m)

  split_4 : length (bytes_in (after_3 m)) ≡ length (bytes_in (flat_map of.method_def_cells m.methods)) + length (bytes_in (after_4 m))
  split_4 = joined_long (flat_map of.method_def_cells m.methods) (after_4 m)

  split_5 : length (bytes_in (after_4 m)) ≡ length (bytes_in (flat_map of.param_cells m.params)) + length (bytes_in (after_5 m))
  split_5 = joined_long (flat_map of.param_cells m.params) (after_5 m)

  split_6 : length (bytes_in (after_5 m)) ≡ length (bytes_in (flat_map of.interface_impl_cells m.interface_impls)) + length (bytes_in (after_6 m))
  split_6 = joined_long (flat_map of.interface_impl_cells m.interface_impls) (after_6 m)

  split_7 : length (bytes_in (after_6 m)) ≡ length (bytes_in (flat_map of.member_ref_cells m.member_refs)) + length (bytes_in (after_7 m))
  split_7 = joined_long (flat_map of.member_ref_cells m.member_refs) (after_7 m)

  split_8 : length (bytes_in (after_7 m)) ≡ length (bytes_in (flat_map of.constant_cells m.constants)) + length (bytes_in (after_8 m))
  split_8 = joined_long (flat_map of.constant_cells m.constants) (after_8 m)

  split_9 : length (bytes_in (after_8 m)) ≡ length (bytes_in (flat_map of.stand_alone_sig_cells m.stand_alone_sigs)) + length (bytes_in (after_9 m))
  split_9 = joined_long (flat_map of.stand_alone_sig_cells m.stand_alone_sigs) (after_9 m)

  split_10 : length (bytes_in (after_9 m)) ≡ length (bytes_in (flat_map of.property_map_cells m.property_maps)) + length (bytes_in (after_10 m))
  split_10 = joined_long (flat_map of.property_map_cells m.property_maps) (after_10 m)

  split_11 : length (bytes_in (after_10 m)) ≡ length (bytes_in (flat_map of.property_cells m.properties)) + length (bytes_in (after_11 m))
  split_11 = joined_long (flat_map of.property_cells m.properties) (after_11 m)

  split_12 : length (bytes_in (after_11 m)) ≡ length (bytes_in (flat_map of.method_semantics_cells m.method_semantics)) + length (bytes_in (after_12 m))
  split_12 = joined_long (flat_map of.method_semantics_cells m.method_semantics) (after_12 m)

  split_13 : length (bytes_in (after_12 m)) ≡ length (bytes_in (flat_map of.method_impl_cells m.method_impls)) + length (bytes_in (after_13 m))
  split_13 = joined_long (flat_map of.method_impl_cells m.method_impls) (after_13 m)

  split_14 : length (bytes_in (after_13 m)) ≡ length (bytes_in (flat_map of.type_spec_cells m.type_specs)) + length (bytes_in (after_14 m))
  split_14 = joined_long (flat_map of.type_spec_cells m.type_specs) (after_14 m)

  split_15 : length (bytes_in (after_14 m)) ≡ length (bytes_in (flat_map of.assembly_cells m.assemblies)) + length (bytes_in (after_15 m))
  split_15 = joined_long (flat_map of.assembly_cells m.assemblies) (after_15 m)

  split_16 : length (bytes_in (after_15 m)) ≡ length (bytes_in (flat_map of.assembly_ref_cells m.assembly_refs)) + length (bytes_in (after_16 m))
  split_16 = joined_long (flat_map of.assembly_ref_cells m.assembly_refs) (after_16 m)

  split_17 : length (bytes_in (after_16 m)) ≡ length (bytes_in (flat_map of.generic_param_cells m.generic_params)) + length (bytes_in (after_17 m))
  split_17 = joined_long (flat_map of.generic_param_cells m.generic_params) (after_17 m)

  split_18 : length (bytes_in (after_17 m)) ≡ length (bytes_in (flat_map of.method_spec_cells m.method_specs)) + length (bytes_in (after_18 m))
  split_18 = joined_long (flat_map of.method_spec_cells m.method_specs) (after_18 m)

  split_19 : length (bytes_in (after_18 m)) ≡ length (bytes_in (flat_map of.generic_param_constraint_cells m.generic_param_constraints)) + length (bytes_in (after_19 m))
  split_19 = joined_long (flat_map of.generic_param_constraint_cells m.generic_param_constraints) (after_19 m)

  -- no table has more rows than all columns have bytes
  pub rows_within : (table : Table) → row_count m table ≤ length (bytes_in all)
  rows_within the.Module = omega (arith, ap (λ (x : List Cell). length (bytes_in x)) (nested m), few_0, split_0)
  rows_within the.TypeRef = omega (arith, ap (λ (x : List Cell). length (bytes_in x)) (nested m), few_1, split_0, split_1)
  rows_within the.TypeDef = omega (arith, ap (λ (x : List Cell). length (bytes_in x)) (nested m), few_2, split_0, split_1, split_2)
  rows_within the.Field = omega (arith, ap (λ (x : List Cell). length (bytes_in x)) (nested m), few_3, split_0, split_1, split_2, split_3)
  rows_within the.MethodDef = omega (arith, ap (λ (x : List Cell). length (bytes_in x)) (nested m), few_4, split_0, split_1, split_2, split_3, split_4)
  rows_within the.Param = omega (arith, ap (λ (x : List Cell). length (bytes_in x)) (nested m), few_5, split_0, split_1, split_2, split_3, split_4, split_5)
  rows_within the.InterfaceImpl = omega (arith, ap (λ (x : List Cell). length (bytes_in x)) (nested m), few_6, split_0, split_1, split_2, split_3, split_4, split_5, split_6)
  rows_within the.MemberRef = omega (arith, ap (λ (x : List Cell). length (bytes_in x)) (nested m), few_7, split_0, split_1, split_2, split_3, split_4, split_5, split_6, split_7)
  rows_within the.Constant = omega (arith, ap (λ (x : List Cell). length (bytes_in x)) (nested m), few_8, split_0, split_1, split_2, split_3, split_4, split_5, split_6, split_7, split_8)
  rows_within the.StandAloneSig = omega (arith, ap (λ (x : List Cell). length (bytes_in x)) (nested m), few_9, split_0, split_1, split_2, split_3, split_4, split_5, split_6, split_7, split_8, split_9)
  rows_within the.PropertyMap = omega (arith, ap (λ (x : List Cell). length (bytes_in x)) (nested m), few_10, split_0, split_1, split_2, split_3, split_4, split_5, split_6, split_7, split_8, split_9, split_10)
  rows_within the.Property = omega (arith, ap (λ (x : List Cell). length (bytes_in x)) (nested m), few_11, split_0, split_1, split_2, split_3, split_4, split_5, split_6, split_7, split_8, split_9, split_10, split_11)
  rows_within the.MethodSemantics = omega (arith, ap (λ (x : List Cell). length (bytes_in x)) (nested m), few_12, split_0, split_1, split_2, split_3, split_4, split_5, split_6, split_7, split_8, split_9, split_10, split_11, split_12)
  rows_within the.MethodImpl = omega (arith, ap (λ (x : List Cell). length (bytes_in x)) (nested m), few_13, split_0, split_1, split_2, split_3, split_4, split_5, split_6, split_7, split_8, split_9, split_10, split_11, split_12, split_13)
  rows_within the.TypeSpec = omega (arith, ap (λ (x : List Cell). length (bytes_in x)) (nested m), few_14, split_0, split_1, split_2, split_3, split_4, split_5, split_6, split_7, split_8, split_9, split_10, split_11, split_12, split_13, split_14)
  rows_within the.Assembly = omega (arith, ap (λ (x : List Cell). length (bytes_in x)) (nested m), few_15, split_0, split_1, split_2, split_3, split_4, split_5, split_6, split_7, split_8, split_9, split_10, split_11, split_12, split_13, split_14, split_15)
  rows_within the.AssemblyRef = omega (arith, ap (λ (x : List Cell). length (bytes_in x)) (nested m), few_16, split_0, split_1, split_2, split_3, split_4, split_5, split_6, split_7, split_8, split_9, split_10, split_11, split_12, split_13, split_14, split_15, split_16)
  rows_within the.GenericParam = omega (arith, ap (λ (x : List Cell). length (bytes_in x)) (nested m), few_17, split_0, split_1, split_2, split_3, split_4, split_5, split_6, split_7, split_8, split_9, split_10, split_11, split_12, split_13, split_14, split_15, split_16, split_17)
  rows_within the.MethodSpec = omega (arith, ap (λ (x : List Cell). length (bytes_in x)) (nested m), few_18, split_0, split_1, split_2, split_3, split_4, split_5, split_6, split_7, split_8, split_9, split_10, split_11, split_12, split_13, split_14, split_15, split_16, split_17, split_18)
  rows_within the.GenericParamConstraint = omega (arith, ap (λ (x : List Cell). length (bytes_in x)) (nested m), few_19, split_0, split_1, split_2, split_3, split_4, split_5, split_6, split_7, split_8, split_9, split_10, split_11, split_12, split_13, split_14, split_15, split_16, split_17, split_18, split_19)

  -- all columns have as many bytes as all rows
  pub rows_long : length (bytes_in all) ≡ rows_size (sizes all (row_count m))
  unfolding rows_size
  rows_long =
      ap (λ (x : List Cell). length (bytes_in x)) (nested m)
      ∙ (next_long all (row_count m) the.Module of.module_cells (λ r. (r, refl)) (λ r. refl) m.modules refl tables_0 (after_0 m)
      (next_long all (row_count m) the.TypeRef of.type_ref_cells (λ r. (r, refl)) (λ r. refl) m.type_refs refl tables_1 (after_1 m)
      (next_long all (row_count m) the.TypeDef of.type_def_cells (λ r. (r, refl)) (λ r. refl) m.type_defs refl tables_2 (after_2 m)
      (next_long all (row_count m) the.Field of.field_cells (λ r. (r, refl)) (λ r. refl) m.fields refl tables_3 (after_3 m)
      (next_long all (row_count m) the.MethodDef of.method_def_cells (λ r. (r, refl)) (λ r. refl) m.methods refl tables_4 (after_4 m)
      (next_long all (row_count m) the.Param of.param_cells (λ r. (r, refl)) (λ r. refl) m.params refl tables_5 (after_5 m)
      (next_long all (row_count m) the.InterfaceImpl of.interface_impl_cells (λ r. (r, refl)) (λ r. refl) m.interface_impls refl tables_6 (after_6 m)
      (next_long all (row_count m) the.MemberRef of.member_ref_cells (λ r. (r, refl)) (λ r. refl) m.member_refs refl tables_7 (after_7 m)
      (next_long all (row_count m) the.Constant of.constant_cells (λ r. (r, refl)) (λ r. refl) m.constants refl tables_8 (after_8 m)
      (next_long all (row_count m) the.StandAloneSig of.stand_alone_sig_cells (λ r. (r, refl)) (λ r. refl) m.stand_alone_sigs refl tables_9 (after_9 m)
      (next_long all (row_count m) the.PropertyMap of.property_map_cells (λ r. (r, refl)) (λ r. refl) m.property_maps refl tables_10 (after_10 m)
      (next_long all (row_count m) the.Property of.property_cells (λ r. (r, refl)) (λ r. refl) m.properties refl tables_11 (after_11 m)
      (next_long all (row_count m) the.MethodSemantics of.method_semantics_cells (λ r. (r, refl)) (λ r. refl) m.method_semantics refl tables_12 (after_12 m)
      (next_long all (row_count m) the.MethodImpl of.method_impl_cells (λ r. (r, refl)) (λ r. refl) m.method_impls refl tables_13 (after_13 m)
      (next_long all (row_count m) the.TypeSpec of.type_spec_cells (λ r. (r, refl)) (λ r. refl) m.type_specs refl tables_14 (after_14 m)
      (next_long all (row_count m) the.Assembly of.assembly_cells (λ r. (r, refl)) (λ r. refl) m.assemblies refl tables_15 (after_15 m)
      (next_long all (row_count m) the.AssemblyRef of.assembly_ref_cells (λ r. (r, refl)) (λ r. refl) m.assembly_refs refl tables_16 (after_16 m)
      (next_long all (row_count m) the.GenericParam of.generic_param_cells (λ r. (r, refl)) (λ r. refl) m.generic_params refl tables_17 (after_17 m)
      (next_long all (row_count m) the.MethodSpec of.method_spec_cells (λ r. (r, refl)) (λ r. refl) m.method_specs refl tables_18 (after_18 m)
      (next_long all (row_count m) the.GenericParamConstraint of.generic_param_constraint_cells (λ r. (r, refl)) (λ r. refl) m.generic_param_constraints refl tables_19 (after_19 m)
      refl))))))))))))))))))))

  -- the rows are read again
  pub rows_back : (rest : List ℕ) → AllByRecursion (Known all (row_count m)) all → AreRows (strings all (row_count m)) (blobs all (row_count m)) [] (tables_numbers (sizes all (row_count m)) tables (bytes_in all ++ rest)) all
  unfolding tables_numbers
  rows_back rest h =
      subst (λ (x : List Cell). AreRows (strings all (row_count m)) (blobs all (row_count m)) [] (tables_numbers (sizes all (row_count m)) tables (bytes_in x ++ rest)) x) (sym (nested m))
      (next_table all (row_count m) the.Module of.module_cells (λ r. (r, refl)) (λ r. refl) m.modules refl tables_0 ([]) (after_0 m) rest (nested m) (subst (AllByRecursion (Known all (row_count m))) (nested m) h) (λ e1 h1.
      (next_table all (row_count m) the.TypeRef of.type_ref_cells (λ r. (r, refl)) (λ r. refl) m.type_refs refl tables_1 ([] ++ flat_map of.module_cells m.modules) (after_1 m) rest e1 h1 (λ e2 h2.
      (next_table all (row_count m) the.TypeDef of.type_def_cells (λ r. (r, refl)) (λ r. refl) m.type_defs refl tables_2 (([] ++ flat_map of.module_cells m.modules) ++ flat_map of.type_ref_cells m.type_refs) (after_2 m) rest e2 h2 (λ e3 h3.
      (next_table all (row_count m) the.Field of.field_cells (λ r. (r, refl)) (λ r. refl) m.fields refl tables_3 ((([] ++ flat_map of.module_cells m.modules) ++ flat_map of.type_ref_cells m.type_refs) ++ flat_map of.type_def_cells m.type_defs) (after_3 m) rest e3 h3 (λ e4 h4.
      (next_table all (row_count m) the.MethodDef of.method_def_cells (λ r. (r, refl)) (λ r. refl) m.methods refl tables_4 (((([] ++ flat_map of.module_cells m.modules) ++ flat_map of.type_ref_cells m.type_refs) ++ flat_map of.type_def_cells m.type_defs) ++ flat_map of.field_cells m.fields) (after_4 m) rest e4 h4 (λ e5 h5.
      (next_table all (row_count m) the.Param of.param_cells (λ r. (r, refl)) (λ r. refl) m.params refl tables_5 ((((([] ++ flat_map of.module_cells m.modules) ++ flat_map of.type_ref_cells m.type_refs) ++ flat_map of.type_def_cells m.type_defs) ++ flat_map of.field_cells m.fields) ++ flat_map of.method_def_cells m.methods) (after_5 m) rest e5 h5 (λ e6 h6.
      (next_table all (row_count m) the.InterfaceImpl of.interface_impl_cells (λ r. (r, refl)) (λ r. refl) m.interface_impls refl tables_6 (((((([] ++ flat_map of.module_cells m.modules) ++ flat_map of.type_ref_cells m.type_refs) ++ flat_map of.type_def_cells m.type_defs) ++ flat_map of.field_cells m.fields) ++ flat_map of.method_def_cells m.methods) ++ flat_map of.param_cells m.params) (after_6 m) rest e6 h6 (λ e7 h7.
      (next_table all (row_count m) the.MemberRef of.member_ref_cells (λ r. (r, refl)) (λ r. refl) m.member_refs refl tables_7 ((((((([] ++ flat_map of.module_cells m.modules) ++ flat_map of.type_ref_cells m.type_refs) ++ flat_map of.type_def_cells m.type_defs) ++ flat_map of.field_cells m.fields) ++ flat_map of.method_def_cells m.methods) ++ flat_map of.param_cells m.params) ++ flat_map of.interface_impl_cells m.interface_impls) (after_7 m) rest e7 h7 (λ e8 h8.
      (next_table all (row_count m) the.Constant of.constant_cells (λ r. (r, refl)) (λ r. refl) m.constants refl tables_8 (((((((([] ++ flat_map of.module_cells m.modules) ++ flat_map of.type_ref_cells m.type_refs) ++ flat_map of.type_def_cells m.type_defs) ++ flat_map of.field_cells m.fields) ++ flat_map of.method_def_cells m.methods) ++ flat_map of.param_cells m.params) ++ flat_map of.interface_impl_cells m.interface_impls) ++ flat_map of.member_ref_cells m.member_refs) (after_8 m) rest e8 h8 (λ e9 h9.
      (next_table all (row_count m) the.StandAloneSig of.stand_alone_sig_cells (λ r. (r, refl)) (λ r. refl) m.stand_alone_sigs refl tables_9 ((((((((([] ++ flat_map of.module_cells m.modules) ++ flat_map of.type_ref_cells m.type_refs) ++ flat_map of.type_def_cells m.type_defs) ++ flat_map of.field_cells m.fields) ++ flat_map of.method_def_cells m.methods) ++ flat_map of.param_cells m.params) ++ flat_map of.interface_impl_cells m.interface_impls) ++ flat_map of.member_ref_cells m.member_refs) ++ flat_map of.constant_cells m.constants) (after_9 m) rest e9 h9 (λ e10 h10.
      (next_table all (row_count m) the.PropertyMap of.property_map_cells (λ r. (r, refl)) (λ r. refl) m.property_maps refl tables_10 (((((((((([] ++ flat_map of.module_cells m.modules) ++ flat_map of.type_ref_cells m.type_refs) ++ flat_map of.type_def_cells m.type_defs) ++ flat_map of.field_cells m.fields) ++ flat_map of.method_def_cells m.methods) ++ flat_map of.param_cells m.params) ++ flat_map of.interface_impl_cells m.interface_impls) ++ flat_map of.member_ref_cells m.member_refs) ++ flat_map of.constant_cells m.constants) ++ flat_map of.stand_alone_sig_cells m.stand_alone_sigs) (after_10 m) rest e10 h10 (λ e11 h11.
      (next_table all (row_count m) the.Property of.property_cells (λ r. (r, refl)) (λ r. refl) m.properties refl tables_11 ((((((((((([] ++ flat_map of.module_cells m.modules) ++ flat_map of.type_ref_cells m.type_refs) ++ flat_map of.type_def_cells m.type_defs) ++ flat_map of.field_cells m.fields) ++ flat_map of.method_def_cells m.methods) ++ flat_map of.param_cells m.params) ++ flat_map of.interface_impl_cells m.interface_impls) ++ flat_map of.member_ref_cells m.member_refs) ++ flat_map of.constant_cells m.constants) ++ flat_map of.stand_alone_sig_cells m.stand_alone_sigs) ++ flat_map of.property_map_cells m.property_maps) (after_11 m) rest e11 h11 (λ e12 h12.
      (next_table all (row_count m) the.MethodSemantics of.method_semantics_cells (λ r. (r, refl)) (λ r. refl) m.method_semantics refl tables_12 (((((((((((([] ++ flat_map of.module_cells m.modules) ++ flat_map of.type_ref_cells m.type_refs) ++ flat_map of.type_def_cells m.type_defs) ++ flat_map of.field_cells m.fields) ++ flat_map of.method_def_cells m.methods) ++ flat_map of.param_cells m.params) ++ flat_map of.interface_impl_cells m.interface_impls) ++ flat_map of.member_ref_cells m.member_refs) ++ flat_map of.constant_cells m.constants) ++ flat_map of.stand_alone_sig_cells m.stand_alone_sigs) ++ flat_map of.property_map_cells m.property_maps) ++ flat_map of.property_cells m.properties) (after_12 m) rest e12 h12 (λ e13 h13.
      (next_table all (row_count m) the.MethodImpl of.method_impl_cells (λ r. (r, refl)) (λ r. refl) m.method_impls refl tables_13 ((((((((((((([] ++ flat_map of.module_cells m.modules) ++ flat_map of.type_ref_cells m.type_refs) ++ flat_map of.type_def_cells m.type_defs) ++ flat_map of.field_cells m.fields) ++ flat_map of.method_def_cells m.methods) ++ flat_map of.param_cells m.params) ++ flat_map of.interface_impl_cells m.interface_impls) ++ flat_map of.member_ref_cells m.member_refs) ++ flat_map of.constant_cells m.constants) ++ flat_map of.stand_alone_sig_cells m.stand_alone_sigs) ++ flat_map of.property_map_cells m.property_maps) ++ flat_map of.property_cells m.properties) ++ flat_map of.method_semantics_cells m.method_semantics) (after_13 m) rest e13 h13 (λ e14 h14.
      (next_table all (row_count m) the.TypeSpec of.type_spec_cells (λ r. (r, refl)) (λ r. refl) m.type_specs refl tables_14 (((((((((((((([] ++ flat_map of.module_cells m.modules) ++ flat_map of.type_ref_cells m.type_refs) ++ flat_map of.type_def_cells m.type_defs) ++ flat_map of.field_cells m.fields) ++ flat_map of.method_def_cells m.methods) ++ flat_map of.param_cells m.params) ++ flat_map of.interface_impl_cells m.interface_impls) ++ flat_map of.member_ref_cells m.member_refs) ++ flat_map of.constant_cells m.constants) ++ flat_map of.stand_alone_sig_cells m.stand_alone_sigs) ++ flat_map of.property_map_cells m.property_maps) ++ flat_map of.property_cells m.properties) ++ flat_map of.method_semantics_cells m.method_semantics) ++ flat_map of.method_impl_cells m.method_impls) (after_14 m) rest e14 h14 (λ e15 h15.
      (next_table all (row_count m) the.Assembly of.assembly_cells (λ r. (r, refl)) (λ r. refl) m.assemblies refl tables_15 ((((((((((((((([] ++ flat_map of.module_cells m.modules) ++ flat_map of.type_ref_cells m.type_refs) ++ flat_map of.type_def_cells m.type_defs) ++ flat_map of.field_cells m.fields) ++ flat_map of.method_def_cells m.methods) ++ flat_map of.param_cells m.params) ++ flat_map of.interface_impl_cells m.interface_impls) ++ flat_map of.member_ref_cells m.member_refs) ++ flat_map of.constant_cells m.constants) ++ flat_map of.stand_alone_sig_cells m.stand_alone_sigs) ++ flat_map of.property_map_cells m.property_maps) ++ flat_map of.property_cells m.properties) ++ flat_map of.method_semantics_cells m.method_semantics) ++ flat_map of.method_impl_cells m.method_impls) ++ flat_map of.type_spec_cells m.type_specs) (after_15 m) rest e15 h15 (λ e16 h16.
      (next_table all (row_count m) the.AssemblyRef of.assembly_ref_cells (λ r. (r, refl)) (λ r. refl) m.assembly_refs refl tables_16 (((((((((((((((([] ++ flat_map of.module_cells m.modules) ++ flat_map of.type_ref_cells m.type_refs) ++ flat_map of.type_def_cells m.type_defs) ++ flat_map of.field_cells m.fields) ++ flat_map of.method_def_cells m.methods) ++ flat_map of.param_cells m.params) ++ flat_map of.interface_impl_cells m.interface_impls) ++ flat_map of.member_ref_cells m.member_refs) ++ flat_map of.constant_cells m.constants) ++ flat_map of.stand_alone_sig_cells m.stand_alone_sigs) ++ flat_map of.property_map_cells m.property_maps) ++ flat_map of.property_cells m.properties) ++ flat_map of.method_semantics_cells m.method_semantics) ++ flat_map of.method_impl_cells m.method_impls) ++ flat_map of.type_spec_cells m.type_specs) ++ flat_map of.assembly_cells m.assemblies) (after_16 m) rest e16 h16 (λ e17 h17.
      (next_table all (row_count m) the.GenericParam of.generic_param_cells (λ r. (r, refl)) (λ r. refl) m.generic_params refl tables_17 ((((((((((((((((([] ++ flat_map of.module_cells m.modules) ++ flat_map of.type_ref_cells m.type_refs) ++ flat_map of.type_def_cells m.type_defs) ++ flat_map of.field_cells m.fields) ++ flat_map of.method_def_cells m.methods) ++ flat_map of.param_cells m.params) ++ flat_map of.interface_impl_cells m.interface_impls) ++ flat_map of.member_ref_cells m.member_refs) ++ flat_map of.constant_cells m.constants) ++ flat_map of.stand_alone_sig_cells m.stand_alone_sigs) ++ flat_map of.property_map_cells m.property_maps) ++ flat_map of.property_cells m.properties) ++ flat_map of.method_semantics_cells m.method_semantics) ++ flat_map of.method_impl_cells m.method_impls) ++ flat_map of.type_spec_cells m.type_specs) ++ flat_map of.assembly_cells m.assemblies) ++ flat_map of.assembly_ref_cells m.assembly_refs) (after_17 m) rest e17 h17 (λ e18 h18.
      (next_table all (row_count m) the.MethodSpec of.method_spec_cells (λ r. (r, refl)) (λ r. refl) m.method_specs refl tables_18 (((((((((((((((((([] ++ flat_map of.module_cells m.modules) ++ flat_map of.type_ref_cells m.type_refs) ++ flat_map of.type_def_cells m.type_defs) ++ flat_map of.field_cells m.fields) ++ flat_map of.method_def_cells m.methods) ++ flat_map of.param_cells m.params) ++ flat_map of.interface_impl_cells m.interface_impls) ++ flat_map of.member_ref_cells m.member_refs) ++ flat_map of.constant_cells m.constants) ++ flat_map of.stand_alone_sig_cells m.stand_alone_sigs) ++ flat_map of.property_map_cells m.property_maps) ++ flat_map of.property_cells m.properties) ++ flat_map of.method_semantics_cells m.method_semantics) ++ flat_map of.method_impl_cells m.method_impls) ++ flat_map of.type_spec_cells m.type_specs) ++ flat_map of.assembly_cells m.assemblies) ++ flat_map of.assembly_ref_cells m.assembly_refs) ++ flat_map of.generic_param_cells m.generic_params) (after_18 m) rest e18 h18 (λ e19 h19.
      (next_table all (row_count m) the.GenericParamConstraint of.generic_param_constraint_cells (λ r. (r, refl)) (λ r. refl) m.generic_param_constraints refl tables_19 ((((((((((((((((((([] ++ flat_map of.module_cells m.modules) ++ flat_map of.type_ref_cells m.type_refs) ++ flat_map of.type_def_cells m.type_defs) ++ flat_map of.field_cells m.fields) ++ flat_map of.method_def_cells m.methods) ++ flat_map of.param_cells m.params) ++ flat_map of.interface_impl_cells m.interface_impls) ++ flat_map of.member_ref_cells m.member_refs) ++ flat_map of.constant_cells m.constants) ++ flat_map of.stand_alone_sig_cells m.stand_alone_sigs) ++ flat_map of.property_map_cells m.property_maps) ++ flat_map of.property_cells m.properties) ++ flat_map of.method_semantics_cells m.method_semantics) ++ flat_map of.method_impl_cells m.method_impls) ++ flat_map of.type_spec_cells m.type_specs) ++ flat_map of.assembly_cells m.assemblies) ++ flat_map of.assembly_ref_cells m.assembly_refs) ++ flat_map of.generic_param_cells m.generic_params) ++ flat_map of.method_spec_cells m.method_specs) (after_19 m) rest e19 h19 (λ e20 h20.
      refl))))))))))))))))))))))))))))))))))))))))
