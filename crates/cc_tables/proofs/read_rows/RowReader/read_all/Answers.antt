use Rattle.std.proofs.Common.{◌≡◌, List, [], subst}
use Rattle.std.specs.List.{flat_map}
use Rattle.cc_module.specs.Rows as of
use Rattle.cc_module.specs.Rows.{Cell}
use Rattle.cc_tables.specs.Counts.{table_rows}
use Rattle.cc_tables.specs.Numbering.{sizes_by}
use Rattle.cc_tables.specs.Progress.{HasRead}
use Rattle.cc_tables.proofs.RowsAdded.{all_joined, all_counted}
use Rattle.cc_tables.proofs.read_rows.RowReader.read_all.Goals as goal

pub returns-clause-read : goal.returns-clause-read
returns-clause-read c =
    λ all h.
    let s = sizes_by (table_rows c.args.source.now.counts.now.counts.items) c.args.source.now.sizes in
    let h1 = c.read.ensures.read all _ h in
    let h2 = c.read-2.ensures.read all _ h1 in
    let h3 = c.read-3.ensures.read all _ h2 in
    let h4 = c.read-4.ensures.read all _ h3 in
    let h5 = c.read-5.ensures.read all _ h4 in
    let h6 = c.read-6.ensures.read all _ h5 in
    let h7 = c.read-7.ensures.read all _ h6 in
    let h8 = c.read-8.ensures.read all _ h7 in
    let h9 = c.read-9.ensures.read all _ h8 in
    let h10 = c.read-10.ensures.read all _ h9 in
    let h11 = c.read-11.ensures.read all _ h10 in
    let h12 = c.read-12.ensures.read all _ h11 in
    let h13 = c.read-13.ensures.read all _ h12 in
    let h14 = c.read-14.ensures.read all _ h13 in
    let h15 = c.read-15.ensures.read all _ h14 in
    let h16 = c.read-16.ensures.read all _ h15 in
    let h17 = c.read-17.ensures.read all _ h16 in
    let h18 = c.read-18.ensures.read all _ h17 in
    let h19 = c.read-19.ensures.read all _ h18 in
    let h20 = c.read-20.ensures.read all _ h19 in
    subst (λ (x : List Cell). HasRead c.args.source.now.strings.now c.args.source.now.blobs.now s c.args.bytes.now all [] c.read-20.new.self x)
    (all_joined (flat_map of.module_cells c.read.result) (flat_map of.type_ref_cells c.read-2.result) (flat_map of.type_def_cells c.read-3.result) (flat_map of.field_cells c.read-4.result) (flat_map of.method_def_cells c.read-5.result) (flat_map of.param_cells c.read-6.result) (flat_map of.interface_impl_cells c.read-7.result) (flat_map of.member_ref_cells c.read-8.result) (flat_map of.constant_cells c.read-9.result) (flat_map of.stand_alone_sig_cells c.read-10.result) (flat_map of.property_map_cells c.read-11.result) (flat_map of.property_cells c.read-12.result) (flat_map of.method_semantics_cells c.read-13.result) (flat_map of.method_impl_cells c.read-14.result) (flat_map of.type_spec_cells c.read-15.result) (flat_map of.assembly_cells c.read-16.result) (flat_map of.assembly_ref_cells c.read-17.result) (flat_map of.generic_param_cells c.read-18.result) (flat_map of.method_spec_cells c.read-19.result) (flat_map of.generic_param_constraint_cells c.read-20.result))
    h20

pub returns-clause-counts : goal.returns-clause-counts
returns-clause-counts c =
    λ n20.
    let n19 = c.read-20.ensures.kept n20 in
    let n18 = c.read-19.ensures.kept n19 in
    let n17 = c.read-18.ensures.kept n18 in
    let n16 = c.read-17.ensures.kept n17 in
    let n15 = c.read-16.ensures.kept n16 in
    let n14 = c.read-15.ensures.kept n15 in
    let n13 = c.read-14.ensures.kept n14 in
    let n12 = c.read-13.ensures.kept n13 in
    let n11 = c.read-12.ensures.kept n12 in
    let n10 = c.read-11.ensures.kept n11 in
    let n9 = c.read-10.ensures.kept n10 in
    let n8 = c.read-9.ensures.kept n9 in
    let n7 = c.read-8.ensures.kept n8 in
    let n6 = c.read-7.ensures.kept n7 in
    let n5 = c.read-6.ensures.kept n6 in
    let n4 = c.read-5.ensures.kept n5 in
    let n3 = c.read-4.ensures.kept n4 in
    let n2 = c.read-3.ensures.kept n3 in
    let n1 = c.read-2.ensures.kept n2 in
    all_counted (record { modules = c.read.result; type_refs = c.read-2.result; type_defs = c.read-3.result; fields = c.read-4.result; methods = c.read-5.result; params = c.read-6.result; interface_impls = c.read-7.result; member_refs = c.read-8.result; constants = c.read-9.result; stand_alone_sigs = c.read-10.result; property_maps = c.read-11.result; properties = c.read-12.result; method_semantics = c.read-13.result; method_impls = c.read-14.result; type_specs = c.read-15.result; assemblies = c.read-16.result; assembly_refs = c.read-17.result; generic_params = c.read-18.result; method_specs = c.read-19.result; generic_param_constraints = c.read-20.result; bodies = c.new.result; texts = c.args.texts; entry = 0 })
    (table_rows c.args.source.now.counts.now.counts.items) (c.read.ensures.count n1) (c.read-2.ensures.count n2) (c.read-3.ensures.count n3) (c.read-4.ensures.count n4) (c.read-5.ensures.count n5) (c.read-6.ensures.count n6) (c.read-7.ensures.count n7) (c.read-8.ensures.count n8) (c.read-9.ensures.count n9) (c.read-10.ensures.count n10) (c.read-11.ensures.count n11) (c.read-12.ensures.count n12) (c.read-13.ensures.count n13) (c.read-14.ensures.count n14) (c.read-15.ensures.count n15) (c.read-16.ensures.count n16) (c.read-17.ensures.count n17) (c.read-18.ensures.count n18) (c.read-19.ensures.count n19) (c.read-20.ensures.count n20)
