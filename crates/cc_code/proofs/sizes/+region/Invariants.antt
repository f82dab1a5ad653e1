use Rattle.std.proofs.Common.{◌≡◌, ◌+◌, drop}
use Rattle.cc_region.specs.Lists.{regions_of, sections_of}
use Rattle.cc_code.specs.Sizes.{regions_size, sections_size}
use Rattle.cc_code.proofs.sizes.+region.Given as goal

abbrev pub invariant-regions_size-loop-region : goal.invariant-regions_size-loop-region
invariant-regions_size-loop-region l = l.size + regions_size (regions_of (drop l.region-index l.regions)) ≡ regions_size (regions_of l.regions)

abbrev pub invariant-sections_size-loop-section : goal.invariant-sections_size-loop-section
invariant-sections_size-loop-section l = l.size + sections_size (sections_of (drop l.section-index l.sections)) ≡ sections_size (sections_of l.sections)
