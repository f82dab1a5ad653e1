use Rattle.std.proofs.Common.{◌≡◌, drop}
use Rattle.cc_core.specs.Lists.{sections_of}
use Rattle.cc_mean.specs.Chosen.{from_default}
use Rattle.cc_mean.proofs.sections.default_section.Given as goal

abbrev pub invariant-loop-at : goal.invariant-loop-at
invariant-loop-at l = from_default (sections_of (drop l.at l.sections)) ≡ from_default (sections_of l.sections)
