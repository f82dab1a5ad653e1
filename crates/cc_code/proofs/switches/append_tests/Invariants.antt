use Rattle.std.proofs.Common.{◌≡◌, ◌+◌, ◌≤◌, ◌++◌, drop}
use Rattle.cc_core.specs.Types.{bare}
use Rattle.cc_region.specs.Lists.{sections_of}
use Rattle.cc_code.specs.Regions.{tests_code}
use Rattle.cc_code.specs.Sizes.{tests_size, sections_size}
use Rattle.cc_code.proofs.switches.append_tests.Given as goal

abbrev pub invariant-loop-section : goal.invariant-loop-section
invariant-loop-section l = record {
  size : l.left ≡ tests_size (bare l.of) (sections_of (drop l.section-index l.sections));
  bound : l.left ≤ tests_size (bare l.of) (sections_of l.sections);
  place : l.place + sections_size (sections_of (drop l.section-index l.sections)) ≡ l.past + sections_size (sections_of l.sections);
  code : l.code.items ++ tests_code l.parameters l.local (bare l.of) (sections_of (drop l.section-index l.sections)) l.place
      ≡ l.initial.code.items ++ tests_code l.parameters l.local (bare l.of) (sections_of l.sections) l.past;
}
