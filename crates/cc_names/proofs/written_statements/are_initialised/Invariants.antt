use Rattle.std.proofs.Common.{◌≡◌, drop}
use Rattle.std.specs.List.{list_all}
use Rattle.cc_names.specs.Mentions as spec
use Rattle.cc_names.proofs.written_statements.are_initialised.Given as goal

abbrev pub invariant-declarators : goal.invariant-declarators
invariant-declarators l = list_all (λ declarator. spec.has_initializer declarator.initializer) (drop l.declarator-index l.declarators) ≡ list_all (λ declarator. spec.has_initializer declarator.initializer) l.declarators
