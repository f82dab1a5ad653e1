use Rattle.std.proofs.Common.{◌≡◌, [], map, drop}
use Rattle.cc_operations.specs.Choosing.{Pick, Chooses}
use Rattle.cc_operations.specs.Judgements.{all_values, values_of}
use Rattle.cc_terms.specs.Terms.{typed}
use Rattle.cc_terms.proofs.terms.+expression.Given as goal

abbrev pub invariant-values-loop-x : goal.invariant-values-loop-x
invariant-values-loop-x g l =
    (choice : Pick) → Chooses l.source.classes choice
    → all_values (values_of l.values) (map (typed choice (g.F.Finder.finds l.finder) l.source l.frame) (drop l.x-index l.items))
    ≡ all_values [] (map (typed choice (g.F.Finder.finds l.finder) l.source l.frame) l.items)
