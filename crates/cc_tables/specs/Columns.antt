-- The columns of each table (ECMA-335, II.22) as kinds, and how many bytes rows have.
use Rattle.std.specs.Prelude.{◌≡◌, ℕ, ◌*◌, List, [], ◌∷◌, map, sum}
use Rattle.cc_module.specs.declared.table.Table.{Table}
use Rattle.cc_module.specs.declared.table.Table.TheVariants as the
use Rattle.cc_module.specs.declared.table.CodedIndex.TheVariants as any
use Rattle.cc_module.specs.declared.table.Column.{Column}
use Rattle.cc_module.specs.declared.table.Column.TheVariants as col
use Rattle.cc_module.specs.declared.rows.ModuleRow.{ModuleRow}
use Rattle.cc_module.specs.declared.rows.TypeRefRow.{TypeRefRow}
use Rattle.cc_module.specs.declared.rows.TypeDefRow.{TypeDefRow}
use Rattle.cc_module.specs.declared.rows.FieldRow.{FieldRow}
use Rattle.cc_module.specs.declared.rows.MethodDefRow.{MethodDefRow}
use Rattle.cc_module.specs.declared.rows.ParamRow.{ParamRow}
use Rattle.cc_module.specs.declared.rows.InterfaceImplRow.{InterfaceImplRow}
use Rattle.cc_module.specs.declared.rows.MemberRefRow.{MemberRefRow}
use Rattle.cc_module.specs.declared.rows.ConstantRow.{ConstantRow}
use Rattle.cc_module.specs.declared.rows.StandAloneSigRow.{StandAloneSigRow}
use Rattle.cc_module.specs.declared.rows.PropertyMapRow.{PropertyMapRow}
use Rattle.cc_module.specs.declared.rows.PropertyRow.{PropertyRow}
use Rattle.cc_module.specs.declared.rows.MethodSemanticsRow.{MethodSemanticsRow}
use Rattle.cc_module.specs.declared.rows.MethodImplRow.{MethodImplRow}
use Rattle.cc_module.specs.declared.rows.TypeSpecRow.{TypeSpecRow}
use Rattle.cc_module.specs.declared.rows.AssemblyRow.{AssemblyRow}
use Rattle.cc_module.specs.declared.rows.AssemblyRefRow.{AssemblyRefRow}
use Rattle.cc_module.specs.declared.rows.GenericParamRow.{GenericParamRow}
use Rattle.cc_module.specs.declared.rows.MethodSpecRow.{MethodSpecRow}
use Rattle.cc_module.specs.declared.rows.GenericParamConstraintRow.{GenericParamConstraintRow}
use Rattle.cc_module.specs.Rows as of
use Rattle.cc_module.specs.Metadata.{Sizes, column_of, column_width, tables}

abbrev pub columns_of : Table → List Column
columns_of the.Module = col.U2 ∷ col.Name ∷ col.Guid ∷ col.Guid ∷ col.Guid ∷ []
columns_of the.TypeRef = col.Coded any.ResolutionScope ∷ col.Name ∷ col.Name ∷ []
columns_of the.TypeDef = col.U4 ∷ col.Name ∷ col.Name ∷ col.Coded any.TypeDefOrRef ∷ col.Row the.Field ∷ col.Row the.MethodDef ∷ []
columns_of the.Field = col.U2 ∷ col.Name ∷ col.Blob ∷ []
columns_of the.MethodDef = col.U4 ∷ col.U2 ∷ col.U2 ∷ col.Name ∷ col.Blob ∷ col.Row the.Param ∷ []
columns_of the.Param = col.U2 ∷ col.U2 ∷ col.Name ∷ []
columns_of the.InterfaceImpl = col.Row the.TypeDef ∷ col.Coded any.TypeDefOrRef ∷ []
columns_of the.MemberRef = col.Coded any.MemberRefParent ∷ col.Name ∷ col.Blob ∷ []
columns_of the.Constant = col.U1 ∷ col.U1 ∷ col.Coded any.HasConstant ∷ col.Blob ∷ []
columns_of the.StandAloneSig = col.Blob ∷ []
columns_of the.PropertyMap = col.Row the.TypeDef ∷ col.Row the.Property ∷ []
columns_of the.Property = col.U2 ∷ col.Name ∷ col.Blob ∷ []
columns_of the.MethodSemantics = col.U2 ∷ col.Row the.MethodDef ∷ col.Coded any.HasSemantics ∷ []
columns_of the.MethodImpl = col.Row the.TypeDef ∷ col.Coded any.MethodDefOrRef ∷ col.Coded any.MethodDefOrRef ∷ []
columns_of the.TypeSpec = col.Blob ∷ []
columns_of the.Assembly = col.U4 ∷ col.U2 ∷ col.U2 ∷ col.U2 ∷ col.U2 ∷ col.U4 ∷ col.Blob ∷ col.Name ∷ col.Name ∷ []
columns_of the.AssemblyRef = col.U2 ∷ col.U2 ∷ col.U2 ∷ col.U2 ∷ col.U4 ∷ col.Blob ∷ col.Name ∷ col.Name ∷ col.Blob ∷ []
columns_of the.GenericParam = col.U2 ∷ col.U2 ∷ col.Coded any.TypeOrMethodDef ∷ col.Name ∷ []
columns_of the.MethodSpec = col.Coded any.MethodDefOrRef ∷ col.Blob ∷ []
columns_of the.GenericParamConstraint = col.Row the.GenericParam ∷ col.Coded any.TypeDefOrRef ∷ []

abbrev pub row_size : Sizes → Table → ℕ
row_size s table = sum (map (column_width s) (columns_of table))

-- of all rows of a table
abbrev pub table_size : Sizes → Table → ℕ
table_size s table = s.rows table * row_size s table

-- of all rows
unfoldable pub rows_size : Sizes → ℕ
rows_size s = sum (map (table_size s) tables)

-- the kinds are those of what stands in the columns of each row
pub record ColumnsStand : Type 0 where
  pub modules : (r : ModuleRow) → map column_of (of.module_cells r) ≡ columns_of the.Module
  pub type_refs : (r : TypeRefRow) → map column_of (of.type_ref_cells r) ≡ columns_of the.TypeRef
  pub type_defs : (r : TypeDefRow) → map column_of (of.type_def_cells r) ≡ columns_of the.TypeDef
  pub fields : (r : FieldRow) → map column_of (of.field_cells r) ≡ columns_of the.Field
  pub methods : (r : MethodDefRow) → map column_of (of.method_def_cells r) ≡ columns_of the.MethodDef
  pub params : (r : ParamRow) → map column_of (of.param_cells r) ≡ columns_of the.Param
  pub interface_impls : (r : InterfaceImplRow) → map column_of (of.interface_impl_cells r) ≡ columns_of the.InterfaceImpl
  pub member_refs : (r : MemberRefRow) → map column_of (of.member_ref_cells r) ≡ columns_of the.MemberRef
  pub constants : (r : ConstantRow) → map column_of (of.constant_cells r) ≡ columns_of the.Constant
  pub stand_alone_sigs : (r : StandAloneSigRow) → map column_of (of.stand_alone_sig_cells r) ≡ columns_of the.StandAloneSig
  pub property_maps : (r : PropertyMapRow) → map column_of (of.property_map_cells r) ≡ columns_of the.PropertyMap
  pub properties : (r : PropertyRow) → map column_of (of.property_cells r) ≡ columns_of the.Property
  pub method_semantics : (r : MethodSemanticsRow) → map column_of (of.method_semantics_cells r) ≡ columns_of the.MethodSemantics
  pub method_impls : (r : MethodImplRow) → map column_of (of.method_impl_cells r) ≡ columns_of the.MethodImpl
  pub type_specs : (r : TypeSpecRow) → map column_of (of.type_spec_cells r) ≡ columns_of the.TypeSpec
  pub assemblies : (r : AssemblyRow) → map column_of (of.assembly_cells r) ≡ columns_of the.Assembly
  pub assembly_refs : (r : AssemblyRefRow) → map column_of (of.assembly_ref_cells r) ≡ columns_of the.AssemblyRef
  pub generic_params : (r : GenericParamRow) → map column_of (of.generic_param_cells r) ≡ columns_of the.GenericParam
  pub method_specs : (r : MethodSpecRow) → map column_of (of.method_spec_cells r) ≡ columns_of the.MethodSpec
  pub generic_param_constraints : (r : GenericParamConstraintRow) → map column_of (of.generic_param_constraint_cells r) ≡ columns_of the.GenericParamConstraint
