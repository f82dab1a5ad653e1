-- The directives of a unit, from those of what stands in it.
use Rattle.std.proofs.Common.{◌≡◌, List, [], ◌++◌, map, ap, ◌∙◌}
use Rattle.cc_tree.specs.declared.unit.Unit.{Unit}
use Rattle.cc_tree.specs.declared.unit.Outer.{Outer}
use Rattle.cc_names.specs.declared.scope.Declared.{Declared}
use Rattle.cc_names.specs.declared.lookup.Directive.{Directive}
use Rattle.cc_names.specs.Directives.{all_directives, outer_directives, directives}

pub assembled : (all own : Declared) (old new : List Directive) (outers : List Outer) (unit : Unit)
    → new ≡ old ++ all_directives all.scopes all.items (map (outer_directives all.scopes all.items) outers) → old ≡ [] → outers ≡ unit.outers → all ≡ own
    → new ≡ directives own.scopes own.items unit
assembled all own old new outers unit e none same is =
    e ∙ ap (λ l. l ++ all_directives all.scopes all.items (map (outer_directives all.scopes all.items) outers)) none
    ∙ ap (λ os. all_directives all.scopes all.items (map (outer_directives all.scopes all.items) os)) same
    ∙ ap (λ w. directives w.scopes w.items unit) is
