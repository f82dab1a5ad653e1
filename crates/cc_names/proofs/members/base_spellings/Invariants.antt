use Rattle.std.proofs.Common.{◌≡◌, ◌++◌, drop, map}
use Rattle.cc_names.specs.Members.{base_spellings}
use Rattle.cc_names.proofs.members.base_spellings.Given as goal

abbrev pub invariant-loop-base : goal.invariant-loop-base
invariant-loop-base l = l.names ++ base_spellings (drop l.base-index l.bases) ≡ base_spellings l.bases
