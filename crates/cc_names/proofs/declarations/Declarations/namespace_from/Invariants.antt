use Rattle.std.proofs.Common.{◌≡◌, drop}
use Rattle.cc_names.specs.Directives as spec
use Rattle.cc_names.proofs.declarations.Declarations.namespace_from.Given as goal

abbrev pub invariant-loop-name : goal.invariant-loop-name
invariant-loop-name l = spec.namespace_from l.self.scopes l.self.items l.around (drop l.name-index l.path) ≡ spec.namespace_from l.self.scopes l.self.items l.initial.around l.path
