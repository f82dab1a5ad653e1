use Rattle.std.proofs.Common.{◌≡◌, drop, map}
use Rattle.cc_typing.specs.Library.{number_of}
use Rattle.cc_typing.proofs.classes.number_in.Given as goal

abbrev pub invariant-loop-at : goal.invariant-loop-at
invariant-loop-at l = number_of l.at l.name (map (λ row. row.0.now) (drop l.at l.rows)) ≡ number_of 0 l.name (map (λ row. row.0.now) l.rows)
