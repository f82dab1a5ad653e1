use Rattle.std.proofs.Common.{◌≡◌, [], drop}
use Rattle.cc_operations.specs.Choosing.{Pick, Chooses}
use Rattle.cc_statements.specs.Steps.{labels_of}
use Rattle.cc_statements.proofs.labels.labels_of.Given as goal

abbrev pub invariant-loop-one : goal.invariant-loop-one
invariant-loop-one g l =
    (choice : Pick) → Chooses l.source.classes choice
    → labels_of choice (g.F.Finder.finds l.finder) l.source l.operand l.frame l.seen (drop l.one-index l.labels) l.done
    ≡ labels_of choice (g.F.Finder.finds l.finder) l.source l.operand l.frame l.seen l.labels []
