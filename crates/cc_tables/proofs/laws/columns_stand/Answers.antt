use Rattle.std.proofs.Common.{refl}
use Rattle.cc_tables.proofs.laws.columns_stand.Goals as goal

pub returns : goal.returns
returns c = record {
  modules = λ r. refl;
  type_refs = λ r. refl;
  type_defs = λ r. refl;
  fields = λ r. refl;
  methods = λ r. refl;
  params = λ r. refl;
  interface_impls = λ r. refl;
  member_refs = λ r. refl;
  constants = λ r. refl;
  stand_alone_sigs = λ r. refl;
  property_maps = λ r. refl;
  properties = λ r. refl;
  method_semantics = λ r. refl;
  method_impls = λ r. refl;
  type_specs = λ r. refl;
  assemblies = λ r. refl;
  assembly_refs = λ r. refl;
  generic_params = λ r. refl;
  method_specs = λ r. refl;
  generic_param_constraints = λ r. refl;
}
