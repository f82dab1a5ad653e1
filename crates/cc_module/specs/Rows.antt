-- The rows of the metadata tables as what stands in their columns (ECMA-335, II.22): one definition for each table, in the
-- order of its columns.
--   x_cells r     the columns of a row of the table x
--   all_cells m   those of all rows, in order of tables, rows and columns
--   row_count m t   the number of rows of the table t
use Rattle.std.specs.Prelude.{ℕ, List, [], ◌∷◌, ◌++◌, length}
use Rattle.std.specs.List.{flat_map}
use Rattle.cc_module.specs.declared.table.Table.{Table}
use Rattle.cc_module.specs.declared.table.Table.TheVariants as the
use Rattle.cc_module.specs.declared.table.CodedIndex.{CodedIndex}
use Rattle.cc_module.specs.declared.table.CodedIndex.TheVariants as any
use Rattle.cc_module.specs.declared.rows.ModuleRow.{ModuleRow}
use Rattle.cc_module.specs.declared.rows.TypeRefRow.{TypeRefRow}
use Rattle.cc_module.specs.declared.rows.TypeDefRow.{TypeDefRow}
use Rattle.cc_module.specs.declared.rows.FieldRow.{FieldRow}
use Rattle.cc_module.specs.declared.rows.MethodDefRow.{MethodDefRow}
use Rattle.cc_module.specs.declared.rows.ParamRow.{ParamRow}
use Rattle.cc_module.specs.declared.rows.InterfaceImplRow.{InterfaceImplRow}
use Rattle.cc_module.specs.declared.rows.MemberRefRow.{MemberRefRow}
use Rattle.cc_module.specs.declared.rows.ConstantRow.{ConstantRow}
use Rattle.cc_module.specs.declared.rows.StandAloneSigRow.{StandAloneSigRow}
use Rattle.cc_module.specs.declared.rows.PropertyMapRow.{PropertyMapRow}
use Rattle.cc_module.specs.declared.rows.PropertyRow.{PropertyRow}
use Rattle.cc_module.specs.declared.rows.AccessorKind.{AccessorKind}
use Rattle.cc_module.specs.declared.rows.AccessorKind.TheVariants.{Setter, Getter}
use Rattle.cc_module.specs.declared.rows.MethodSemanticsRow.{MethodSemanticsRow}
use Rattle.cc_module.specs.declared.rows.MethodImplRow.{MethodImplRow}
use Rattle.cc_module.specs.declared.rows.TypeSpecRow.{TypeSpecRow}
use Rattle.cc_module.specs.declared.rows.Version.{Version}
use Rattle.cc_module.specs.declared.rows.AssemblyRow.{AssemblyRow}
use Rattle.cc_module.specs.declared.rows.AssemblyRefRow.{AssemblyRefRow}
use Rattle.cc_module.specs.declared.rows.GenericParamRow.{GenericParamRow}
use Rattle.cc_module.specs.declared.rows.MethodSpecRow.{MethodSpecRow}
use Rattle.cc_module.specs.declared.rows.GenericParamConstraintRow.{GenericParamConstraintRow}
use Rattle.cc_module.specs.declared.module.Module.{Module}
use Rattle.cc_module.specs.Indexes.{type_code, constant_code, member_parent_code, semantics_code, method_code, scope_code, generic_owner_code}

-- what stands in a column of a row
pub data Cell : Type 0 where
  -- a number of one, two or four bytes
  u1 : ℕ → Cell
  u2 : ℕ → Cell
  u4 : ℕ → Cell
  -- an index into `#Strings`, of a name
  name : List ℕ → Cell
  -- an index into `#GUID`: 1 is the one GUID, 0 is none
  guid : ℕ → Cell
  -- an index into `#Blob`, of a signature and of another blob
  signature : List ℕ → Cell
  blob : List ℕ → Cell
  -- a row of a table
  row : Table → ℕ → Cell
  -- a coded index
  coded : CodedIndex → ℕ → Cell

-- II.22.30
abbrev pub module_cells : ModuleRow → List Cell
module_cells r = u2 0 ∷ name r.name ∷ guid 1 ∷ guid 0 ∷ guid 0 ∷ []

-- II.22.38
abbrev pub type_ref_cells : TypeRefRow → List Cell
type_ref_cells r = coded any.ResolutionScope (scope_code r.scope) ∷ name r.name ∷ name r.namespace ∷ []

-- II.22.37
abbrev pub type_def_cells : TypeDefRow → List Cell
type_def_cells r = u4 r.flags ∷ name r.name ∷ name r.namespace ∷ coded any.TypeDefOrRef (type_code r.extends) ∷ row the.Field r.fields.0 ∷ row the.MethodDef r.methods.0 ∷ []

-- II.22.15
abbrev pub field_cells : FieldRow → List Cell
field_cells r = u2 r.flags ∷ name r.name ∷ signature r.signature ∷ []

-- II.22.26
abbrev pub method_def_cells : MethodDefRow → List Cell
method_def_cells r = u4 r.rva ∷ u2 0 ∷ u2 r.flags ∷ name r.name ∷ signature r.signature ∷ row the.Param r.parameters.0 ∷ []

-- II.22.33
abbrev pub param_cells : ParamRow → List Cell
param_cells r = u2 0 ∷ u2 r.sequence ∷ name r.name ∷ []

-- II.22.23
abbrev pub interface_impl_cells : InterfaceImplRow → List Cell
interface_impl_cells r = row the.TypeDef r.class.0 ∷ coded any.TypeDefOrRef (type_code r.interface) ∷ []

-- II.22.25
abbrev pub member_ref_cells : MemberRefRow → List Cell
member_ref_cells r = coded any.MemberRefParent (member_parent_code r.class) ∷ name r.name ∷ signature r.signature ∷ []

-- II.22.9
abbrev pub constant_cells : ConstantRow → List Cell
constant_cells r = u1 r.element_type ∷ u1 0 ∷ coded any.HasConstant (constant_code r.parent) ∷ blob r.value ∷ []

-- II.22.36
abbrev pub stand_alone_sig_cells : StandAloneSigRow → List Cell
stand_alone_sig_cells r = signature r.signature ∷ []

-- II.22.35
abbrev pub property_map_cells : PropertyMapRow → List Cell
property_map_cells r = row the.TypeDef r.parent.0 ∷ row the.Property r.properties.0 ∷ []

-- II.22.34
abbrev pub property_cells : PropertyRow → List Cell
property_cells r = u2 0 ∷ name r.name ∷ signature r.signature ∷ []

-- II.23.1.12
abbrev pub semantics_flags : AccessorKind → ℕ
semantics_flags Setter = 1
semantics_flags Getter = 2

-- II.22.28
abbrev pub method_semantics_cells : MethodSemanticsRow → List Cell
method_semantics_cells r = u2 (semantics_flags r.kind) ∷ row the.MethodDef r.method.0 ∷ coded any.HasSemantics (semantics_code r.association) ∷ []

-- II.22.27
abbrev pub method_impl_cells : MethodImplRow → List Cell
method_impl_cells r = row the.TypeDef r.class.0 ∷ coded any.MethodDefOrRef (method_code r.body) ∷ coded any.MethodDefOrRef (method_code r.declaration) ∷ []

-- II.22.39
abbrev pub type_spec_cells : TypeSpecRow → List Cell
type_spec_cells r = signature r.signature ∷ []

abbrev pub version_cells : Version → List Cell
version_cells v = u2 v.major ∷ u2 v.minor ∷ u2 v.build ∷ u2 v.revision ∷ []

-- II.22.2; 8004 is SHA1 (II.23.1.1)
abbrev pub assembly_cells : AssemblyRow → List Cell
assembly_cells r = u4 0x8004 ∷ version_cells r.version ++ (u4 0 ∷ blob [] ∷ name r.name ∷ name [] ∷ [])

-- II.22.5
abbrev pub assembly_ref_cells : AssemblyRefRow → List Cell
assembly_ref_cells r = version_cells r.version ++ (u4 0 ∷ blob r.token ∷ name r.name ∷ name [] ∷ blob [] ∷ [])

-- II.22.20
abbrev pub generic_param_cells : GenericParamRow → List Cell
generic_param_cells r = u2 r.number ∷ u2 r.flags ∷ coded any.TypeOrMethodDef (generic_owner_code r.owner) ∷ name r.name ∷ []

-- II.22.29
abbrev pub method_spec_cells : MethodSpecRow → List Cell
method_spec_cells r = coded any.MethodDefOrRef (method_code r.method) ∷ signature r.instantiation ∷ []

-- II.22.21
abbrev pub generic_param_constraint_cells : GenericParamConstraintRow → List Cell
generic_param_constraint_cells r = row the.GenericParam r.owner.0 ∷ coded any.TypeDefOrRef (type_code r.constraint) ∷ []

-- ---- all rows

-- the columns of the tables 00 to 0B
abbrev pub early_cells : Module → List Cell
early_cells m =
    flat_map module_cells m.modules
    ++ (flat_map type_ref_cells m.type_refs
    ++ (flat_map type_def_cells m.type_defs
    ++ (flat_map field_cells m.fields
    ++ (flat_map method_def_cells m.methods
    ++ (flat_map param_cells m.params
    ++ (flat_map interface_impl_cells m.interface_impls
    ++ (flat_map member_ref_cells m.member_refs
    ++ flat_map constant_cells m.constants)))))))

-- those of the tables 11 to 2C
abbrev pub late_cells : Module → List Cell
late_cells m =
    flat_map stand_alone_sig_cells m.stand_alone_sigs
    ++ (flat_map property_map_cells m.property_maps
    ++ (flat_map property_cells m.properties
    ++ (flat_map method_semantics_cells m.method_semantics
    ++ (flat_map method_impl_cells m.method_impls
    ++ (flat_map type_spec_cells m.type_specs
    ++ (flat_map assembly_cells m.assemblies
    ++ (flat_map assembly_ref_cells m.assembly_refs
    ++ (flat_map generic_param_cells m.generic_params
    ++ (flat_map method_spec_cells m.method_specs
    ++ flat_map generic_param_constraint_cells m.generic_param_constraints)))))))))

abbrev pub all_cells : Module → List Cell
all_cells m = early_cells m ++ late_cells m

abbrev pub row_count : Module → Table → ℕ
row_count m the.Module = length m.modules
row_count m the.TypeRef = length m.type_refs
row_count m the.TypeDef = length m.type_defs
row_count m the.Field = length m.fields
row_count m the.MethodDef = length m.methods
row_count m the.Param = length m.params
row_count m the.InterfaceImpl = length m.interface_impls
row_count m the.MemberRef = length m.member_refs
row_count m the.Constant = length m.constants
row_count m the.StandAloneSig = length m.stand_alone_sigs
row_count m the.PropertyMap = length m.property_maps
row_count m the.Property = length m.properties
row_count m the.MethodSemantics = length m.method_semantics
row_count m the.MethodImpl = length m.method_impls
row_count m the.TypeSpec = length m.type_specs
row_count m the.Assembly = length m.assemblies
row_count m the.AssemblyRef = length m.assembly_refs
row_count m the.GenericParam = length m.generic_params
row_count m the.MethodSpec = length m.method_specs
row_count m the.GenericParamConstraint = length m.generic_param_constraints
