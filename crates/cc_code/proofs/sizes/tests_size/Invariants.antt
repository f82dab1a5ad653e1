use Rattle.std.proofs.Common.{◌≡◌, ◌+◌, drop}
use Rattle.cc_core.specs.Types.{bare}
use Rattle.cc_region.specs.Lists.{sections_of}
use Rattle.cc_code.specs.Sizes.{tests_size}
use Rattle.cc_code.proofs.sizes.tests_size.Given as goal

abbrev pub invariant-loop-section : goal.invariant-loop-section
invariant-loop-section l = l.size + tests_size (bare l.of) (sections_of (drop l.section-index l.sections)) ≡ tests_size (bare l.of) (sections_of l.sections)
