use Rattle.std.proofs.Common.{◌≡◌, ◌+◌, ◌++◌, drop}
use Rattle.cc_region.specs.Lists.{regions_of, sections_of}
use Rattle.cc_code.specs.Regions.{regions_code, sections_code}
use Rattle.cc_code.specs.Sizes.{regions_size, sections_size}
use Rattle.cc_code.proofs.regions.+region.Given as goal

abbrev pub invariant-append_regions-loop-region : goal.invariant-append_regions-loop-region
invariant-append_regions-loop-region l = record {
  size : l.next + regions_size (regions_of (drop l.region-index l.regions)) ≡ l.at + regions_size (regions_of l.regions);
  code : l.code.items ++ regions_code l.tokens l.parameters (regions_of (drop l.region-index l.regions)) l.next l.around
      ≡ l.initial.code.items ++ regions_code l.tokens l.parameters (regions_of l.regions) l.at l.around;
}

abbrev pub invariant-append_sections-loop-section : goal.invariant-append_sections-loop-section
invariant-append_sections-loop-section l = record {
  size : l.next + sections_size (sections_of (drop l.section-index l.sections)) ≡ l.at + sections_size (sections_of l.sections);
  code : l.code.items ++ sections_code l.tokens l.parameters (sections_of (drop l.section-index l.sections)) l.next l.around
      ≡ l.initial.code.items ++ sections_code l.tokens l.parameters (sections_of l.sections) l.at l.around;
}
