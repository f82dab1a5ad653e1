use Rattle.std.proofs.Common.{◌≡◌, drop, map}
use Rattle.cc_forms.specs.Forms.{first_of, declarator_form}
use Rattle.cc_forms.proofs.statements.declarators.Given as goal

abbrev pub invariant-declarators : goal.invariant-declarators
invariant-declarators l = first_of (map declarator_form (drop l.declarator-index l.declarators)) ≡ first_of (map declarator_form l.initial.declarators)
