use Rattle.std.proofs.Common.{◌≡◌, ◌++◌, drop, map}
use Rattle.cc_names.specs.Directives as spec
use Rattle.cc_names.proofs.declarations.Declarations.+directives.Given as goal

abbrev pub invariant-add_directives-loop-outer : goal.invariant-add_directives-loop-outer
invariant-add_directives-loop-outer l =
    l.directives ++ spec.all_directives l.self.scopes l.self.items (map (spec.outer_directives l.self.scopes l.self.items) (drop l.outer-index l.outers))
    ≡ l.initial.directives ++ spec.all_directives l.self.scopes l.self.items (map (spec.outer_directives l.self.scopes l.self.items) l.outers)
