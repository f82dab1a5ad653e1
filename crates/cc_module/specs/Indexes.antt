-- Coded indexes: a row with the tag of its table in the lowest bits (ECMA-335, II.24.2.6).
use Rattle.std.specs.Prelude.{ℕ, ◌+◌, ◌*◌}
use Rattle.cc_module.specs.declared.element.TypeDefOrRef.{TypeDefOrRef}
use Rattle.cc_module.specs.declared.element.TypeDefOrRef.TheVariants as the_type
use Rattle.cc_module.specs.declared.index.HasConstant.{HasConstant}
use Rattle.cc_module.specs.declared.index.HasConstant.TheVariants as the_constant
use Rattle.cc_module.specs.declared.index.MemberRefParent.{MemberRefParent}
use Rattle.cc_module.specs.declared.index.MemberRefParent.TheVariants as the_parent
use Rattle.cc_module.specs.declared.index.HasSemantics.{HasSemantics}
use Rattle.cc_module.specs.declared.index.HasSemantics.TheVariants as the_association
use Rattle.cc_module.specs.declared.index.MethodDefOrRef.{MethodDefOrRef}
use Rattle.cc_module.specs.declared.index.MethodDefOrRef.TheVariants as the_method
use Rattle.cc_module.specs.declared.index.ResolutionScope.{ResolutionScope}
use Rattle.cc_module.specs.declared.index.ResolutionScope.TheVariants as the_scope
use Rattle.cc_module.specs.declared.index.TypeOrMethodDef.{TypeOrMethodDef}
use Rattle.cc_module.specs.declared.index.TypeOrMethodDef.TheVariants as the_owner

abbrev pub type_code : TypeDefOrRef → ℕ
type_code (the_type.TypeDef row) = row * 4
type_code (the_type.TypeRef row) = row * 4 + 1
type_code (the_type.TypeSpec row) = row * 4 + 2

abbrev pub constant_code : HasConstant → ℕ
constant_code (the_constant.Field row) = row * 4

abbrev pub member_parent_code : MemberRefParent → ℕ
member_parent_code (the_parent.TypeDef row) = row * 8
member_parent_code (the_parent.TypeRef row) = row * 8 + 1
member_parent_code (the_parent.TypeSpec row) = row * 8 + 4

abbrev pub semantics_code : HasSemantics → ℕ
semantics_code (the_association.Property row) = row * 2 + 1

abbrev pub method_code : MethodDefOrRef → ℕ
method_code (the_method.MethodDef row) = row * 2
method_code (the_method.MemberRef row) = row * 2 + 1

abbrev pub scope_code : ResolutionScope → ℕ
scope_code (the_scope.AssemblyRef row) = row * 4 + 2

abbrev pub generic_owner_code : TypeOrMethodDef → ℕ
generic_owner_code (the_owner.TypeDef row) = row * 2
generic_owner_code (the_owner.MethodDef row) = row * 2 + 1
