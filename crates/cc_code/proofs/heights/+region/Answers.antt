use Rattle.std.proofs.Common.{ap, arith, rules}
use Rattle.std.proofs.lemmas.Grind.{common_steps}
use Rattle.cc_region.specs.declared.tree.RegionStatement.{the_lemmas}
use Rattle.cc_region.specs.Lists.{regions_of, sections_of}
use Rattle.cc_code.specs.Heights.{regions_height, sections_height}
use Rattle.cc_code.proofs.Rows.{height_sequence, height_switch}
use Rattle.cc_code.proofs.heights.+region.Goals as goal

pub region_height-regions_height-requires : goal.region_height-regions_height-requires
region_height-regions_height-requires t c =
    let s = height_sequence c.args.region.now _ c.in-Sequence.is in
    let l = ap (λ l. regions_height (regions_of l)) c.as_slice.ensures in
    (search (rules, the_lemmas), omega arith)

pub region_height-sections_height-requires : goal.region_height-sections_height-requires
region_height-sections_height-requires t c =
    let s = height_switch c.args.region.now _ _ _ c.in-Switch.is in
    let l = ap (λ l. sections_height (sections_of l)) c.as_slice-in-Switch.ensures in
    (search (rules, the_lemmas), omega arith)

pub region_height-returns-in-Sequence : goal.region_height-returns-in-Sequence
region_height-returns-in-Sequence t c =
    let s = height_sequence c.args.region.now _ c.in-Sequence.is in
    let l = ap (λ l. regions_height (regions_of l)) c.as_slice.ensures in
    grind (arith, common_steps)

pub region_height-returns-in-Switch : goal.region_height-returns-in-Switch
region_height-returns-in-Switch t c =
    let s = height_switch c.args.region.now _ _ _ c.in-Switch.is in
    let l = ap (λ l. sections_height (sections_of l)) c.as_slice-in-Switch.ensures in
    grind (arith, common_steps)
