use Rattle.std.proofs.Common.{◌≡◌, map, take}
use Rattle.cc_core.specs.Bare.{step_of}
use Rattle.cc_region.specs.Bare.{region_of}
use Rattle.cc_dispose.specs.Lower.{lowered, lowered_section, bare_section}
use Rattle.cc_dispose.proofs.statements.+statement.Given as goal

abbrev pub invariant-lower_all-loop-statement : goal.invariant-lower_all-loop-statement
invariant-lower_all-loop-statement l = map region_of l.regions ≡ map (λ a. lowered l.inner (step_of a)) (take l.statement-index l.statements)

abbrev pub invariant-lower_sections-loop-section : goal.invariant-lower_sections-loop-section
invariant-lower_sections-loop-section l = map bare_section l.made ≡ map (lowered_section l.inner) (take l.section-index l.sections)
