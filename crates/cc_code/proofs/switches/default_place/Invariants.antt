use Rattle.std.proofs.Common.{◌≡◌, ◌+◌, drop}
use Rattle.cc_region.specs.Lists.{sections_of}
use Rattle.cc_code.specs.Regions.{default_place}
use Rattle.cc_code.specs.Sizes.{sections_size}
use Rattle.cc_code.proofs.switches.default_place.Given as goal

abbrev pub invariant-loop-section : goal.invariant-loop-section
invariant-loop-section l = record {
  size : l.place + sections_size (sections_of (drop l.section-index l.sections)) ≡ sections_size (sections_of l.sections);
  place : l.place + default_place (sections_of (drop l.section-index l.sections)) ≡ default_place (sections_of l.sections);
}
