use Rattle.std.proofs.Common.{◌≡◌, drop}
use Rattle.cc_typing.specs.Told.{told_all}
use Rattle.cc_typing_laws.specs.Programs.{start_from}
use Rattle.cc_typing.proofs.programs.start_of.Given as goal

abbrev pub invariant-loop-at : goal.invariant-loop-at
invariant-loop-at l = start_from l.at (told_all (drop l.at l.functions)) ≡ start_from 0 (told_all l.functions)
