use Rattle.std.proofs.Common.{◌≡◌, ◌++◌, ap, sym, ◌∙◌, arith, rules}
use Rattle.cc_core.specs.Bare.{term_of}
use Rattle.cc_region.specs.declared.tree.RegionStatement.{the_lemmas}
use Rattle.cc_region.specs.Lists.{regions_of, sections_of}
use Rattle.cc_region.specs.Region as region
use Rattle.cc_code.specs.Regions.{region_code, regions_code}
use Rattle.cc_code.specs.Sizes.{region_size, regions_size}
use Rattle.cc_code.proofs.Rows.{size_sequence, switch_size, code_sequence, code_switch}
use Rattle.cc_code.proofs.regions.+region.Goals as goal

pub append_region-append_regions-requires : goal.append_region-append_regions-requires
append_region-append_regions-requires t c =
    let s = size_sequence c.args.region.now _ c.in-Sequence.is in
    let l = ap (λ l. regions_size (regions_of l)) c.as_slice-regions.ensures in
    (search (rules, the_lemmas), omega arith)

pub append_region-append_switch-requires : goal.append_region-append_switch-requires
append_region-append_switch-requires t c =
    let s = switch_size c.args.region.now _ _ _ c.in-Switch.is in
    let l = ap (λ l. region_size (region.Switch c.in-Switch.local (term_of c.in-Switch.e) (sections_of l))) c.as_slice-sections.ensures in
    (search (rules, the_lemmas), omega arith)

pub append_region-returns-in_ok-append_regions-in-Sequence : goal.append_region-returns-in_ok-append_regions-in-Sequence
append_region-returns-in_ok-append_regions-in-Sequence t c =
    let s = code_sequence c.args.tokens.now c.args.parameters c.args.region.now c.in-Sequence.regions c.args.at c.args.around.now c.in-Sequence.is in
    let l = ap (λ l. regions_code c.args.tokens.now c.args.parameters (regions_of l) c.args.at c.args.around.now) c.as_slice-regions.ensures in
    c.in_ok-append_regions-in-Sequence.ensures ∙ ap (λ x. c.args.code.now.items ++ x) (l ∙ sym s)

pub append_region-returns-in_ok-append_switch-in-Switch : goal.append_region-returns-in_ok-append_switch-in-Switch
append_region-returns-in_ok-append_switch-in-Switch t c =
    let s = code_switch c.args.tokens.now c.args.parameters c.args.region.now c.in-Switch.local c.in-Switch.e c.in-Switch.sections c.args.at c.args.around.now c.in-Switch.is in
    let l = ap (λ l. region_code c.args.tokens.now c.args.parameters (region.Switch c.in-Switch.local (term_of c.in-Switch.e) (sections_of l)) c.args.at c.args.around.now) c.as_slice-sections.ensures in
    c.in_ok-append_switch-in-Switch.ensures ∙ ap (λ x. c.args.code.now.items ++ x) (l ∙ sym s)
