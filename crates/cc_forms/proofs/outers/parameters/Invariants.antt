use Rattle.std.proofs.Common.{◌≡◌, drop, map}
use Rattle.cc_forms.specs.Forms.{first_of, parameter_form}
use Rattle.cc_forms.proofs.outers.parameters.Given as goal

abbrev pub invariant-parameters : goal.invariant-parameters
invariant-parameters l = first_of (map parameter_form (drop l.parameter-index l.parameters)) ≡ first_of (map parameter_form l.initial.parameters)
