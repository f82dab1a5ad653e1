use Rattle.std.proofs.Common.{◌≡◌, [], map, drop}
use Rattle.cc_operations.specs.Choosing.{Pick, Chooses}
use Rattle.cc_typing.specs.Told.{told_all}
use Rattle.cc_typing_laws.specs.Functions.{bodies_from, told_body}
use Rattle.cc_typing.proofs.functions.bodies.Given as goal

abbrev pub invariant-loop-at : goal.invariant-loop-at
invariant-loop-at g l =
    (choice : Pick) → Chooses l.source.classes choice
    → bodies_from choice (g.F.Finder.finds l.finder) l.source l.items l.numbers l.at (told_all (drop l.at l.functions)) (map told_body l.done)
    ≡ bodies_from choice (g.F.Finder.finds l.finder) l.source l.items l.numbers 0 (told_all l.functions) []
