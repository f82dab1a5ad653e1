use Rattle.std.proofs.Common.{ap, ◌∙◌, arith, rules}
use Rattle.cc_core.specs.Term.{type_of}
use Rattle.cc_core.specs.Bare.{term_of}
use Rattle.cc_region.specs.declared.tree.RegionStatement.{the_lemmas}
use Rattle.cc_region.specs.Lists.{regions_of, sections_of}
use Rattle.cc_code.specs.Sizes.{regions_size, sections_size, tests_size}
use Rattle.cc_code.proofs.Rows.{size_sequence, size_switch}
use Rattle.cc_code.proofs.sizes.+region.Goals as goal

pub region_size-regions_size-requires : goal.region_size-regions_size-requires
region_size-regions_size-requires t c =
    let s = size_sequence c.args.region.now c.in-Sequence.regions c.in-Sequence.is in
    let l = ap (λ l. regions_size (regions_of l)) c.as_slice.ensures in
    (search (rules, the_lemmas), omega arith)

pub region_size-tests_size-tests-requires : goal.region_size-tests_size-tests-requires
region_size-tests_size-tests-requires t c =
    let s = size_switch c.args.region.now c.in-Switch.field-0 c.in-Switch.e c.in-Switch.sections c.in-Switch.is in
    let l = ap (λ of. tests_size of (sections_of c.as_slice-in-Switch.result.now)) c.type_of.ensures ∙ ap (λ l. tests_size (type_of (term_of c.in-Switch.e)) (sections_of l)) c.as_slice-in-Switch.ensures in
    omega arith

pub region_size-overflow_add-result-in-Switch : goal.region_size-overflow_add-result-in-Switch
region_size-overflow_add-result-in-Switch t c =
    let s = size_switch c.args.region.now c.in-Switch.field-0 c.in-Switch.e c.in-Switch.sections c.in-Switch.is in
    let l = ap (λ of. tests_size of (sections_of c.as_slice-in-Switch.result.now)) c.type_of.ensures ∙ ap (λ l. tests_size (type_of (term_of c.in-Switch.e)) (sections_of l)) c.as_slice-in-Switch.ensures in
    omega arith

pub region_size-sections_size-requires : goal.region_size-sections_size-requires
region_size-sections_size-requires t c =
    let s = size_switch c.args.region.now c.in-Switch.field-0 c.in-Switch.e c.in-Switch.sections c.in-Switch.is in
    let l = ap (λ l. sections_size (sections_of l)) c.as_slice-in-Switch-2.ensures in
    (search (rules, the_lemmas), omega arith)

pub region_size-overflow_add-result-in-Switch-2 : goal.region_size-overflow_add-result-in-Switch-2
region_size-overflow_add-result-in-Switch-2 t c =
    let s = size_switch c.args.region.now c.in-Switch.field-0 c.in-Switch.e c.in-Switch.sections c.in-Switch.is in
    let l = ap (λ of. tests_size of (sections_of c.as_slice-in-Switch.result.now)) c.type_of.ensures ∙ ap (λ l. tests_size (type_of (term_of c.in-Switch.e)) (sections_of l)) c.as_slice-in-Switch.ensures in
    let m = ap (λ l. sections_size (sections_of l)) c.as_slice-in-Switch-2.ensures in
    omega arith

pub region_size-overflow_add-result-in-Switch-3 : goal.region_size-overflow_add-result-in-Switch-3
region_size-overflow_add-result-in-Switch-3 t c =
    let s = size_switch c.args.region.now c.in-Switch.field-0 c.in-Switch.e c.in-Switch.sections c.in-Switch.is in
    let l = ap (λ of. tests_size of (sections_of c.as_slice-in-Switch.result.now)) c.type_of.ensures ∙ ap (λ l. tests_size (type_of (term_of c.in-Switch.e)) (sections_of l)) c.as_slice-in-Switch.ensures in
    let m = ap (λ l. sections_size (sections_of l)) c.as_slice-in-Switch-2.ensures in
    omega arith

pub region_size-returns-in-Sequence : goal.region_size-returns-in-Sequence
region_size-returns-in-Sequence t c =
    let s = size_sequence c.args.region.now c.in-Sequence.regions c.in-Sequence.is in
    let l = ap (λ l. regions_size (regions_of l)) c.as_slice.ensures in
    omega arith

pub region_size-returns-in-Switch : goal.region_size-returns-in-Switch
region_size-returns-in-Switch t c =
    let s = size_switch c.args.region.now c.in-Switch.field-0 c.in-Switch.e c.in-Switch.sections c.in-Switch.is in
    let l = ap (λ of. tests_size of (sections_of c.as_slice-in-Switch.result.now)) c.type_of.ensures ∙ ap (λ l. tests_size (type_of (term_of c.in-Switch.e)) (sections_of l)) c.as_slice-in-Switch.ensures in
    let m = ap (λ l. sections_size (sections_of l)) c.as_slice-in-Switch-2.ensures in
    omega arith
