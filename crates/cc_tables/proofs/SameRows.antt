-- Rows by what stands in their columns: columns that are the same are of the same rows.
use Rattle.std.proofs.Common.{◌≡◌, ℕ, ◌+◌, ◌*◌, List, [], ◌∷◌, ◌++◌, length, get_or, drop, refl, sym, ap, ◌∙◌, append_assoc, arith}
use Rattle.std.specs.List.{flat_map}
use Rattle.std.proofs.lemmas.List.{append-nil}
use Rattle.cc_module.specs.declared.element.TypeDefOrRef.{TypeDefOrRef}
use Rattle.cc_module.specs.declared.element.TypeDefOrRef.TheVariants as the_type
use Rattle.cc_module.specs.declared.index.HasConstant.{HasConstant}
use Rattle.cc_module.specs.declared.index.HasConstant.TheVariants as the_constant
use Rattle.cc_module.specs.declared.index.MemberRefParent.{MemberRefParent}
use Rattle.cc_module.specs.declared.index.MemberRefParent.TheVariants as the_parent
use Rattle.cc_module.specs.declared.index.HasSemantics.{HasSemantics}
use Rattle.cc_module.specs.declared.index.HasSemantics.TheVariants as the_association
use Rattle.cc_module.specs.declared.index.MethodDefOrRef.{MethodDefOrRef}
use Rattle.cc_module.specs.declared.index.MethodDefOrRef.TheVariants as the_method
use Rattle.cc_module.specs.declared.index.ResolutionScope.{ResolutionScope}
use Rattle.cc_module.specs.declared.index.ResolutionScope.TheVariants as the_scope
use Rattle.cc_module.specs.declared.index.TypeOrMethodDef.{TypeOrMethodDef}
use Rattle.cc_module.specs.declared.index.TypeOrMethodDef.TheVariants as the_owner
use Rattle.cc_module.specs.declared.rows.AccessorKind.{AccessorKind}
use Rattle.cc_module.specs.declared.rows.AccessorKind.TheVariants as the_kind
use Rattle.cc_module.specs.declared.rows.Version.{Version}
use Rattle.cc_module.specs.declared.table.Table.{Table}
use Rattle.cc_module.specs.declared.table.Table.TheVariants as the
use Rattle.cc_module.specs.declared.module.Module.{Module}
use Rattle.cc_module.specs.declared.rows.ModuleRow.{ModuleRow}
use Rattle.cc_module.specs.declared.rows.TypeRefRow.{TypeRefRow}
use Rattle.cc_module.specs.declared.rows.TypeDefRow.{TypeDefRow}
use Rattle.cc_module.specs.declared.rows.FieldRow.{FieldRow}
use Rattle.cc_module.specs.declared.rows.MethodDefRow.{MethodDefRow}
use Rattle.cc_module.specs.declared.rows.ParamRow.{ParamRow}
use Rattle.cc_module.specs.declared.rows.InterfaceImplRow.{InterfaceImplRow}
use Rattle.cc_module.specs.declared.rows.MemberRefRow.{MemberRefRow}
use Rattle.cc_module.specs.declared.rows.ConstantRow.{ConstantRow}
use Rattle.cc_module.specs.declared.rows.StandAloneSigRow.{StandAloneSigRow}
use Rattle.cc_module.specs.declared.rows.PropertyMapRow.{PropertyMapRow}
use Rattle.cc_module.specs.declared.rows.PropertyRow.{PropertyRow}
use Rattle.cc_module.specs.declared.rows.MethodSemanticsRow.{MethodSemanticsRow}
use Rattle.cc_module.specs.declared.rows.MethodImplRow.{MethodImplRow}
use Rattle.cc_module.specs.declared.rows.TypeSpecRow.{TypeSpecRow}
use Rattle.cc_module.specs.declared.rows.AssemblyRow.{AssemblyRow}
use Rattle.cc_module.specs.declared.rows.AssemblyRefRow.{AssemblyRefRow}
use Rattle.cc_module.specs.declared.rows.GenericParamRow.{GenericParamRow}
use Rattle.cc_module.specs.declared.rows.MethodSpecRow.{MethodSpecRow}
use Rattle.cc_module.specs.declared.rows.GenericParamConstraintRow.{GenericParamConstraintRow}
use Rattle.cc_module.specs.Indexes.{type_code, constant_code, member_parent_code, semantics_code, method_code, scope_code, generic_owner_code}
use Rattle.cc_module.specs.Rows as of
use Rattle.cc_module.specs.Rows.{Cell, u1, u2, u4, name, guid, signature, blob, row, coded, semantics_flags, all_cells, early_cells, late_cells, row_count}
use Rattle.cc_tables.proofs.Written.{from_type_ref, from_type_def, from_field, from_method_def, from_param, from_interface_impl, from_member_ref, from_constant, from_property_map, from_property, from_method_semantics, from_method_impl, from_type_spec, from_assembly, from_assembly_ref, from_generic_param, from_method_spec, from_generic_param_constraint}

-- ---- what stands in a column: a number or a text

abbrev pub number_in : Cell → ℕ
number_in (u1 value) = value
number_in (u2 value) = value
number_in (u4 value) = value
number_in (name text) = 0
number_in (guid index) = index
number_in (signature text) = 0
number_in (blob text) = 0
number_in (row table index) = index
number_in (coded kind code) = code

abbrev pub text_in : Cell → List ℕ
text_in (u1 value) = []
text_in (u2 value) = []
text_in (u4 value) = []
text_in (name text) = text
text_in (guid index) = []
text_in (signature text) = text
text_in (blob text) = text
text_in (row table index) = []
text_in (coded kind code) = []

abbrev number_at : ℕ → List Cell → ℕ
number_at place cells = number_in (get_or cells place (u1 0))

abbrev text_at : ℕ → List Cell → List ℕ
text_at place cells = text_in (get_or cells place (u1 0))

-- ---- a code is of one row

type_code_one : (x y : TypeDefOrRef) → type_code x ≡ type_code y → x ≡ y
type_code_one (the_type.TypeDef a) (the_type.TypeDef b) e = let same : a ≡ b = omega (arith, e) in ap (λ (n : ℕ). the_type.TypeDef n) same
type_code_one (the_type.TypeDef a) (the_type.TypeRef b) e = absurd (omega (arith, e))
type_code_one (the_type.TypeDef a) (the_type.TypeSpec b) e = absurd (omega (arith, e))
type_code_one (the_type.TypeRef a) (the_type.TypeDef b) e = absurd (omega (arith, e))
type_code_one (the_type.TypeRef a) (the_type.TypeRef b) e = let same : a ≡ b = omega (arith, e) in ap (λ (n : ℕ). the_type.TypeRef n) same
type_code_one (the_type.TypeRef a) (the_type.TypeSpec b) e = absurd (omega (arith, e))
type_code_one (the_type.TypeSpec a) (the_type.TypeDef b) e = absurd (omega (arith, e))
type_code_one (the_type.TypeSpec a) (the_type.TypeRef b) e = absurd (omega (arith, e))
type_code_one (the_type.TypeSpec a) (the_type.TypeSpec b) e = let same : a ≡ b = omega (arith, e) in ap (λ (n : ℕ). the_type.TypeSpec n) same

constant_code_one : (x y : HasConstant) → constant_code x ≡ constant_code y → x ≡ y
constant_code_one (the_constant.Field a) (the_constant.Field b) e = let same : a ≡ b = omega (arith, e) in ap (λ (n : ℕ). the_constant.Field n) same

member_parent_code_one : (x y : MemberRefParent) → member_parent_code x ≡ member_parent_code y → x ≡ y
member_parent_code_one (the_parent.TypeDef a) (the_parent.TypeDef b) e = let same : a ≡ b = omega (arith, e) in ap (λ (n : ℕ). the_parent.TypeDef n) same
member_parent_code_one (the_parent.TypeDef a) (the_parent.TypeRef b) e = absurd (omega (arith, e))
member_parent_code_one (the_parent.TypeDef a) (the_parent.TypeSpec b) e = absurd (omega (arith, e))
member_parent_code_one (the_parent.TypeRef a) (the_parent.TypeDef b) e = absurd (omega (arith, e))
member_parent_code_one (the_parent.TypeRef a) (the_parent.TypeRef b) e = let same : a ≡ b = omega (arith, e) in ap (λ (n : ℕ). the_parent.TypeRef n) same
member_parent_code_one (the_parent.TypeRef a) (the_parent.TypeSpec b) e = absurd (omega (arith, e))
member_parent_code_one (the_parent.TypeSpec a) (the_parent.TypeDef b) e = absurd (omega (arith, e))
member_parent_code_one (the_parent.TypeSpec a) (the_parent.TypeRef b) e = absurd (omega (arith, e))
member_parent_code_one (the_parent.TypeSpec a) (the_parent.TypeSpec b) e = let same : a ≡ b = omega (arith, e) in ap (λ (n : ℕ). the_parent.TypeSpec n) same

semantics_code_one : (x y : HasSemantics) → semantics_code x ≡ semantics_code y → x ≡ y
semantics_code_one (the_association.Property a) (the_association.Property b) e = let same : a ≡ b = omega (arith, e) in ap (λ (n : ℕ). the_association.Property n) same

method_code_one : (x y : MethodDefOrRef) → method_code x ≡ method_code y → x ≡ y
method_code_one (the_method.MethodDef a) (the_method.MethodDef b) e = let same : a ≡ b = omega (arith, e) in ap (λ (n : ℕ). the_method.MethodDef n) same
method_code_one (the_method.MethodDef a) (the_method.MemberRef b) e = absurd (omega (arith, e))
method_code_one (the_method.MemberRef a) (the_method.MethodDef b) e = absurd (omega (arith, e))
method_code_one (the_method.MemberRef a) (the_method.MemberRef b) e = let same : a ≡ b = omega (arith, e) in ap (λ (n : ℕ). the_method.MemberRef n) same

scope_code_one : (x y : ResolutionScope) → scope_code x ≡ scope_code y → x ≡ y
scope_code_one (the_scope.AssemblyRef a) (the_scope.AssemblyRef b) e = let same : a ≡ b = omega (arith, e) in ap (λ (n : ℕ). the_scope.AssemblyRef n) same

generic_owner_code_one : (x y : TypeOrMethodDef) → generic_owner_code x ≡ generic_owner_code y → x ≡ y
generic_owner_code_one (the_owner.TypeDef a) (the_owner.TypeDef b) e = let same : a ≡ b = omega (arith, e) in ap (λ (n : ℕ). the_owner.TypeDef n) same
generic_owner_code_one (the_owner.TypeDef a) (the_owner.MethodDef b) e = absurd (omega (arith, e))
generic_owner_code_one (the_owner.MethodDef a) (the_owner.TypeDef b) e = absurd (omega (arith, e))
generic_owner_code_one (the_owner.MethodDef a) (the_owner.MethodDef b) e = let same : a ≡ b = omega (arith, e) in ap (λ (n : ℕ). the_owner.MethodDef n) same

kind_one : (x y : AccessorKind) → semantics_flags x ≡ semantics_flags y → x ≡ y
kind_one the_kind.Setter the_kind.Setter e = refl
kind_one the_kind.Setter the_kind.Getter e = absurd (omega (arith, e))
kind_one the_kind.Getter the_kind.Setter e = absurd (omega (arith, e))
kind_one the_kind.Getter the_kind.Getter e = refl

-- ---- a row by its columns, which others follow

module_one : (x y : ModuleRow) (u v : List Cell) → of.module_cells x ++ u ≡ of.module_cells y ++ v → (x ≡ y) × (u ≡ v)
module_one x y u v e =
    let p1 : x.name ≡ y.name = ap (text_at 1) e in
    ((λ i. record { name = p1 i }), ap (drop 5) e)

type_ref_one : (x y : TypeRefRow) (u v : List Cell) → of.type_ref_cells x ++ u ≡ of.type_ref_cells y ++ v → (x ≡ y) × (u ≡ v)
type_ref_one x y u v e =
    let p0 : x.scope ≡ y.scope = scope_code_one x.scope y.scope (ap (number_at 0) e) in
    let p1 : x.name ≡ y.name = ap (text_at 1) e in
    let p2 : x.namespace ≡ y.namespace = ap (text_at 2) e in
    ((λ i. record { scope = p0 i; name = p1 i; namespace = p2 i }), ap (drop 3) e)

type_def_one : (x y : TypeDefRow) (u v : List Cell) → of.type_def_cells x ++ u ≡ of.type_def_cells y ++ v → (x ≡ y) × (u ≡ v)
type_def_one x y u v e =
    let p0 : x.flags ≡ y.flags = ap (number_at 0) e in
    let p1 : x.name ≡ y.name = ap (text_at 1) e in
    let p2 : x.namespace ≡ y.namespace = ap (text_at 2) e in
    let p3 : x.extends ≡ y.extends = type_code_one x.extends y.extends (ap (number_at 3) e) in
    let p4 : x.fields.0 ≡ y.fields.0 = ap (number_at 4) e in
    let p5 : x.methods.0 ≡ y.methods.0 = ap (number_at 5) e in
    ((λ i. record { flags = p0 i; name = p1 i; namespace = p2 i; extends = p3 i; fields = record { 0 = p4 i }; methods = record { 0 = p5 i } }), ap (drop 6) e)

field_one : (x y : FieldRow) (u v : List Cell) → of.field_cells x ++ u ≡ of.field_cells y ++ v → (x ≡ y) × (u ≡ v)
field_one x y u v e =
    let p0 : x.flags ≡ y.flags = ap (number_at 0) e in
    let p1 : x.name ≡ y.name = ap (text_at 1) e in
    let p2 : x.signature ≡ y.signature = ap (text_at 2) e in
    ((λ i. record { flags = p0 i; name = p1 i; signature = p2 i }), ap (drop 3) e)

method_def_one : (x y : MethodDefRow) (u v : List Cell) → of.method_def_cells x ++ u ≡ of.method_def_cells y ++ v → (x ≡ y) × (u ≡ v)
method_def_one x y u v e =
    let p0 : x.rva ≡ y.rva = ap (number_at 0) e in
    let p2 : x.flags ≡ y.flags = ap (number_at 2) e in
    let p3 : x.name ≡ y.name = ap (text_at 3) e in
    let p4 : x.signature ≡ y.signature = ap (text_at 4) e in
    let p5 : x.parameters.0 ≡ y.parameters.0 = ap (number_at 5) e in
    ((λ i. record { rva = p0 i; flags = p2 i; name = p3 i; signature = p4 i; parameters = record { 0 = p5 i } }), ap (drop 6) e)

param_one : (x y : ParamRow) (u v : List Cell) → of.param_cells x ++ u ≡ of.param_cells y ++ v → (x ≡ y) × (u ≡ v)
param_one x y u v e =
    let p1 : x.sequence ≡ y.sequence = ap (number_at 1) e in
    let p2 : x.name ≡ y.name = ap (text_at 2) e in
    ((λ i. record { sequence = p1 i; name = p2 i }), ap (drop 3) e)

interface_impl_one : (x y : InterfaceImplRow) (u v : List Cell) → of.interface_impl_cells x ++ u ≡ of.interface_impl_cells y ++ v → (x ≡ y) × (u ≡ v)
interface_impl_one x y u v e =
    let p0 : x.class.0 ≡ y.class.0 = ap (number_at 0) e in
    let p1 : x.interface ≡ y.interface = type_code_one x.interface y.interface (ap (number_at 1) e) in
    ((λ i. record { class = record { 0 = p0 i }; interface = p1 i }), ap (drop 2) e)

member_ref_one : (x y : MemberRefRow) (u v : List Cell) → of.member_ref_cells x ++ u ≡ of.member_ref_cells y ++ v → (x ≡ y) × (u ≡ v)
member_ref_one x y u v e =
    let p0 : x.class ≡ y.class = member_parent_code_one x.class y.class (ap (number_at 0) e) in
    let p1 : x.name ≡ y.name = ap (text_at 1) e in
    let p2 : x.signature ≡ y.signature = ap (text_at 2) e in
    ((λ i. record { class = p0 i; name = p1 i; signature = p2 i }), ap (drop 3) e)

constant_one : (x y : ConstantRow) (u v : List Cell) → of.constant_cells x ++ u ≡ of.constant_cells y ++ v → (x ≡ y) × (u ≡ v)
constant_one x y u v e =
    let p0 : x.element_type ≡ y.element_type = ap (number_at 0) e in
    let p2 : x.parent ≡ y.parent = constant_code_one x.parent y.parent (ap (number_at 2) e) in
    let p3 : x.value ≡ y.value = ap (text_at 3) e in
    ((λ i. record { element_type = p0 i; parent = p2 i; value = p3 i }), ap (drop 4) e)

stand_alone_sig_one : (x y : StandAloneSigRow) (u v : List Cell) → of.stand_alone_sig_cells x ++ u ≡ of.stand_alone_sig_cells y ++ v → (x ≡ y) × (u ≡ v)
stand_alone_sig_one x y u v e =
    let p0 : x.signature ≡ y.signature = ap (text_at 0) e in
    ((λ i. record { signature = p0 i }), ap (drop 1) e)

property_map_one : (x y : PropertyMapRow) (u v : List Cell) → of.property_map_cells x ++ u ≡ of.property_map_cells y ++ v → (x ≡ y) × (u ≡ v)
property_map_one x y u v e =
    let p0 : x.parent.0 ≡ y.parent.0 = ap (number_at 0) e in
    let p1 : x.properties.0 ≡ y.properties.0 = ap (number_at 1) e in
    ((λ i. record { parent = record { 0 = p0 i }; properties = record { 0 = p1 i } }), ap (drop 2) e)

property_one : (x y : PropertyRow) (u v : List Cell) → of.property_cells x ++ u ≡ of.property_cells y ++ v → (x ≡ y) × (u ≡ v)
property_one x y u v e =
    let p1 : x.name ≡ y.name = ap (text_at 1) e in
    let p2 : x.signature ≡ y.signature = ap (text_at 2) e in
    ((λ i. record { name = p1 i; signature = p2 i }), ap (drop 3) e)

method_semantics_one : (x y : MethodSemanticsRow) (u v : List Cell) → of.method_semantics_cells x ++ u ≡ of.method_semantics_cells y ++ v → (x ≡ y) × (u ≡ v)
method_semantics_one x y u v e =
    let p0 : x.kind ≡ y.kind = kind_one x.kind y.kind (ap (number_at 0) e) in
    let p1 : x.method.0 ≡ y.method.0 = ap (number_at 1) e in
    let p2 : x.association ≡ y.association = semantics_code_one x.association y.association (ap (number_at 2) e) in
    ((λ i. record { kind = p0 i; method = record { 0 = p1 i }; association = p2 i }), ap (drop 3) e)

method_impl_one : (x y : MethodImplRow) (u v : List Cell) → of.method_impl_cells x ++ u ≡ of.method_impl_cells y ++ v → (x ≡ y) × (u ≡ v)
method_impl_one x y u v e =
    let p0 : x.class.0 ≡ y.class.0 = ap (number_at 0) e in
    let p1 : x.body ≡ y.body = method_code_one x.body y.body (ap (number_at 1) e) in
    let p2 : x.declaration ≡ y.declaration = method_code_one x.declaration y.declaration (ap (number_at 2) e) in
    ((λ i. record { class = record { 0 = p0 i }; body = p1 i; declaration = p2 i }), ap (drop 3) e)

type_spec_one : (x y : TypeSpecRow) (u v : List Cell) → of.type_spec_cells x ++ u ≡ of.type_spec_cells y ++ v → (x ≡ y) × (u ≡ v)
type_spec_one x y u v e =
    let p0 : x.signature ≡ y.signature = ap (text_at 0) e in
    ((λ i. record { signature = p0 i }), ap (drop 1) e)

assembly_one : (x y : AssemblyRow) (u v : List Cell) → of.assembly_cells x ++ u ≡ of.assembly_cells y ++ v → (x ≡ y) × (u ≡ v)
assembly_one x y u v e =
    let p1 : x.version.major ≡ y.version.major = ap (number_at 1) e in
    let p2 : x.version.minor ≡ y.version.minor = ap (number_at 2) e in
    let p3 : x.version.build ≡ y.version.build = ap (number_at 3) e in
    let p4 : x.version.revision ≡ y.version.revision = ap (number_at 4) e in
    let p7 : x.name ≡ y.name = ap (text_at 7) e in
    ((λ i. record { version = record { major = p1 i; minor = p2 i; build = p3 i; revision = p4 i }; name = p7 i }), ap (drop 9) e)

assembly_ref_one : (x y : AssemblyRefRow) (u v : List Cell) → of.assembly_ref_cells x ++ u ≡ of.assembly_ref_cells y ++ v → (x ≡ y) × (u ≡ v)
assembly_ref_one x y u v e =
    let p0 : x.version.major ≡ y.version.major = ap (number_at 0) e in
    let p1 : x.version.minor ≡ y.version.minor = ap (number_at 1) e in
    let p2 : x.version.build ≡ y.version.build = ap (number_at 2) e in
    let p3 : x.version.revision ≡ y.version.revision = ap (number_at 3) e in
    let p5 : x.token ≡ y.token = ap (text_at 5) e in
    let p6 : x.name ≡ y.name = ap (text_at 6) e in
    ((λ i. record { version = record { major = p0 i; minor = p1 i; build = p2 i; revision = p3 i }; token = p5 i; name = p6 i }), ap (drop 9) e)

generic_param_one : (x y : GenericParamRow) (u v : List Cell) → of.generic_param_cells x ++ u ≡ of.generic_param_cells y ++ v → (x ≡ y) × (u ≡ v)
generic_param_one x y u v e =
    let p0 : x.number ≡ y.number = ap (number_at 0) e in
    let p1 : x.flags ≡ y.flags = ap (number_at 1) e in
    let p2 : x.owner ≡ y.owner = generic_owner_code_one x.owner y.owner (ap (number_at 2) e) in
    let p3 : x.name ≡ y.name = ap (text_at 3) e in
    ((λ i. record { number = p0 i; flags = p1 i; owner = p2 i; name = p3 i }), ap (drop 4) e)

method_spec_one : (x y : MethodSpecRow) (u v : List Cell) → of.method_spec_cells x ++ u ≡ of.method_spec_cells y ++ v → (x ≡ y) × (u ≡ v)
method_spec_one x y u v e =
    let p0 : x.method ≡ y.method = method_code_one x.method y.method (ap (number_at 0) e) in
    let p1 : x.instantiation ≡ y.instantiation = ap (text_at 1) e in
    ((λ i. record { method = p0 i; instantiation = p1 i }), ap (drop 2) e)

generic_param_constraint_one : (x y : GenericParamConstraintRow) (u v : List Cell) → of.generic_param_constraint_cells x ++ u ≡ of.generic_param_constraint_cells y ++ v → (x ≡ y) × (u ≡ v)
generic_param_constraint_one x y u v e =
    let p0 : x.owner.0 ≡ y.owner.0 = ap (number_at 0) e in
    let p1 : x.constraint ≡ y.constraint = type_code_one x.constraint y.constraint (ap (number_at 1) e) in
    ((λ i. record { owner = record { 0 = p0 i }; constraint = p1 i }), ap (drop 2) e)

-- ---- rows of a table

module _ {R : Type 0} (cells : R → List Cell) (one : (x y : R) (u v : List Cell) → cells x ++ u ≡ cells y ++ v → (x ≡ y) × (u ≡ v)) where
  table_one : (a b : List R) (u v : List Cell) → length a ≡ length b → flat_map cells a ++ u ≡ flat_map cells b ++ v → (a ≡ b) × (u ≡ v)
  table_one [] [] u v l e = (refl, e)
  table_one [] (y ∷ b) u v l e = absurd (omega (arith, l))
  table_one (x ∷ a) [] u v l e = absurd (omega (arith, l))
  table_one (x ∷ a) (y ∷ b) u v l e =
      let p = one x y (flat_map cells a ++ u) (flat_map cells b ++ v) (sym (append_assoc (cells x) (flat_map cells a) u) ∙ e ∙ append_assoc (cells y) (flat_map cells b) v) in
      let q = table_one a b u v (omega (arith, l)) p.1 in
      ((λ i. p.0 i ∷ q.0 i), q.1)

  -- where two groups of tables follow
  table_first : (a b : List R) (u v s t : List Cell) → length a ≡ length b → (flat_map cells a ++ u) ++ s ≡ (flat_map cells b ++ v) ++ t → (a ≡ b) × (u ++ s ≡ v ++ t)
  table_first a b u v s t l e = table_one a b (u ++ s) (v ++ t) l (sym (append_assoc (flat_map cells a) u s) ∙ e ∙ append_assoc (flat_map cells b) v t)

-- ---- all rows

pub record SameRows (m r : Module) : Type 0 where
  pub modules : m.modules ≡ r.modules
  pub type_refs : m.type_refs ≡ r.type_refs
  pub type_defs : m.type_defs ≡ r.type_defs
  pub fields : m.fields ≡ r.fields
  pub methods : m.methods ≡ r.methods
  pub params : m.params ≡ r.params
  pub interface_impls : m.interface_impls ≡ r.interface_impls
  pub member_refs : m.member_refs ≡ r.member_refs
  pub constants : m.constants ≡ r.constants
  pub stand_alone_sigs : m.stand_alone_sigs ≡ r.stand_alone_sigs
  pub property_maps : m.property_maps ≡ r.property_maps
  pub properties : m.properties ≡ r.properties
  pub method_semantics : m.method_semantics ≡ r.method_semantics
  pub method_impls : m.method_impls ≡ r.method_impls
  pub type_specs : m.type_specs ≡ r.type_specs
  pub assemblies : m.assemblies ≡ r.assemblies
  pub assembly_refs : m.assembly_refs ≡ r.assembly_refs
  pub generic_params : m.generic_params ≡ r.generic_params
  pub method_specs : m.method_specs ≡ r.method_specs
  pub generic_param_constraints : m.generic_param_constraints ≡ r.generic_param_constraints

pub same_rows : (m r : Module) → ((table : Table) → row_count m table ≡ row_count r table) → all_cells m ≡ all_cells r → SameRows m r
same_rows m r n e =
    let q0 = table_first of.module_cells module_one m.modules r.modules (from_type_ref m) (from_type_ref r) (late_cells m) (late_cells r) (n the.Module) e in
    let q1 = table_first of.type_ref_cells type_ref_one m.type_refs r.type_refs (from_type_def m) (from_type_def r) (late_cells m) (late_cells r) (n the.TypeRef) q0.1 in
    let q2 = table_first of.type_def_cells type_def_one m.type_defs r.type_defs (from_field m) (from_field r) (late_cells m) (late_cells r) (n the.TypeDef) q1.1 in
    let q3 = table_first of.field_cells field_one m.fields r.fields (from_method_def m) (from_method_def r) (late_cells m) (late_cells r) (n the.Field) q2.1 in
    let q4 = table_first of.method_def_cells method_def_one m.methods r.methods (from_param m) (from_param r) (late_cells m) (late_cells r) (n the.MethodDef) q3.1 in
    let q5 = table_first of.param_cells param_one m.params r.params (from_interface_impl m) (from_interface_impl r) (late_cells m) (late_cells r) (n the.Param) q4.1 in
    let q6 = table_first of.interface_impl_cells interface_impl_one m.interface_impls r.interface_impls (from_member_ref m) (from_member_ref r) (late_cells m) (late_cells r) (n the.InterfaceImpl) q5.1 in
    let q7 = table_first of.member_ref_cells member_ref_one m.member_refs r.member_refs (from_constant m) (from_constant r) (late_cells m) (late_cells r) (n the.MemberRef) q6.1 in
    let q8 = table_one of.constant_cells constant_one m.constants r.constants (late_cells m) (late_cells r) (n the.Constant) q7.1 in
    let q9 = table_one of.stand_alone_sig_cells stand_alone_sig_one m.stand_alone_sigs r.stand_alone_sigs (from_property_map m) (from_property_map r) (n the.StandAloneSig) q8.1 in
    let q10 = table_one of.property_map_cells property_map_one m.property_maps r.property_maps (from_property m) (from_property r) (n the.PropertyMap) q9.1 in
    let q11 = table_one of.property_cells property_one m.properties r.properties (from_method_semantics m) (from_method_semantics r) (n the.Property) q10.1 in
    let q12 = table_one of.method_semantics_cells method_semantics_one m.method_semantics r.method_semantics (from_method_impl m) (from_method_impl r) (n the.MethodSemantics) q11.1 in
    let q13 = table_one of.method_impl_cells method_impl_one m.method_impls r.method_impls (from_type_spec m) (from_type_spec r) (n the.MethodImpl) q12.1 in
    let q14 = table_one of.type_spec_cells type_spec_one m.type_specs r.type_specs (from_assembly m) (from_assembly r) (n the.TypeSpec) q13.1 in
    let q15 = table_one of.assembly_cells assembly_one m.assemblies r.assemblies (from_assembly_ref m) (from_assembly_ref r) (n the.Assembly) q14.1 in
    let q16 = table_one of.assembly_ref_cells assembly_ref_one m.assembly_refs r.assembly_refs (from_generic_param m) (from_generic_param r) (n the.AssemblyRef) q15.1 in
    let q17 = table_one of.generic_param_cells generic_param_one m.generic_params r.generic_params (from_method_spec m) (from_method_spec r) (n the.GenericParam) q16.1 in
    let q18 = table_one of.method_spec_cells method_spec_one m.method_specs r.method_specs (from_generic_param_constraint m) (from_generic_param_constraint r) (n the.MethodSpec) q17.1 in
    let q19 = table_one of.generic_param_constraint_cells generic_param_constraint_one m.generic_param_constraints r.generic_param_constraints [] [] (n the.GenericParamConstraint) (append-nil (from_generic_param_constraint m) ∙ q18.1 ∙ sym (append-nil (from_generic_param_constraint r))) in
    record {
      modules = q0.0;
      type_refs = q1.0;
      type_defs = q2.0;
      fields = q3.0;
      methods = q4.0;
      params = q5.0;
      interface_impls = q6.0;
      member_refs = q7.0;
      constants = q8.0;
      stand_alone_sigs = q9.0;
      property_maps = q10.0;
      properties = q11.0;
      method_semantics = q12.0;
      method_impls = q13.0;
      type_specs = q14.0;
      assemblies = q15.0;
      assembly_refs = q16.0;
      generic_params = q17.0;
      method_specs = q18.0;
      generic_param_constraints = q19.0;
    }
