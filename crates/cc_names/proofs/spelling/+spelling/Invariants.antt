use Rattle.std.proofs.Common.{◌≡◌, ◌++◌, drop, map}
use Rattle.cc_names.specs.Spelling.{spelling, with_commas}
use Rattle.cc_names.proofs.spelling.+spelling.Given as goal

abbrev pub invariant-spell_all-loop-of : goal.invariant-spell_all-loop-of
invariant-spell_all-loop-of l = l.text.items ++ with_commas (map spelling (drop l.of-index l.types)) ≡ l.initial.text.items ++ with_commas (map spelling l.types)
