use Rattle.std.proofs.Common.{◌≡◌, [], drop}
use Rattle.cc_operations.specs.Choosing.{Pick, Chooses}
use Rattle.cc_statements.specs.Steps.{all_declared, steps_bare}
use Rattle.cc_statements.proofs.parts.local_declared.Given as goal

abbrev pub invariant-loop-one : goal.invariant-loop-one
invariant-loop-one g l =
    (choice : Pick) → Chooses l.source.classes choice
    → all_declared choice (g.F.Finder.finds l.finder) l.source l.of (drop l.one-index l.declarators) (steps_bare l.done) l.frame
    ≡ all_declared choice (g.F.Finder.finds l.finder) l.source l.of l.declarators [] l.initial.frame
