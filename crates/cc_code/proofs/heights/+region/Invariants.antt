use Rattle.std.proofs.Common.{◌≡◌, drop}
use Rattle.std.specs.Prelude.{max}
use Rattle.cc_region.specs.Lists.{regions_of, sections_of}
use Rattle.cc_code.specs.Heights.{regions_height, sections_height}
use Rattle.cc_code.proofs.heights.+region.Given as goal

abbrev pub invariant-regions_height-loop-region : goal.invariant-regions_height-loop-region
invariant-regions_height-loop-region l = max l.height (regions_height (regions_of (drop l.region-index l.regions))) ≡ regions_height (regions_of l.regions)

abbrev pub invariant-sections_height-loop-section : goal.invariant-sections_height-loop-section
invariant-sections_height-loop-section l = max l.height (sections_height (sections_of (drop l.section-index l.sections))) ≡ sections_height (sections_of l.sections)
