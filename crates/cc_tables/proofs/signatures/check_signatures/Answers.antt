use Rattle.std.proofs.Common.{map}
use Rattle.std.specs.List.{flat_map}
use Rattle.cc_module.specs.Rows.{all_cells}
use Rattle.cc_tables.specs.Numbering.{heap_texts}
use Rattle.cc_tables.specs.Reading.{signature_of, SignatureFault}
use Rattle.cc_tables.proofs.Signed.{signatures_known, short_fields, short_methods, short_member_refs, short_stand_alone_sigs, short_properties, short_type_specs, short_method_specs, first_wrong, second_wrong, third_wrong, fourth_wrong, fifth_wrong, sixth_wrong, seventh_wrong, all_right}
use Rattle.cc_tables.proofs.Started.{handed}
use Rattle.cc_tables.proofs.signatures.check_signatures.Goals as goal

pub check_table-requires-clause-short : goal.check_table-requires-clause-short
check_table-requires-clause-short c = short_fields c.args.source.now c.requires.short

pub returns-in_err-check_table-clause-fault : goal.returns-in_err-check_table-clause-fault
returns-in_err-check_table-clause-fault c =
    handed c.from_residual.result c.in_err-check_table.field-0.0 (SignatureFault c.args.at (heap_texts c.args.heap.now) (flat_map signature_of (all_cells c.args.source.now))) c.from_residual.ensures.1
    (λ fault e n. first_wrong c.args.at (heap_texts c.args.heap.now) (flat_map signature_of (all_cells c.args.source.now)) (map (λ r. r.signature) c.args.source.now.fields) (map (λ r. r.signature) c.args.source.now.methods) (map (λ r. r.signature) c.args.source.now.member_refs) (map (λ r. r.signature) c.args.source.now.stand_alone_sigs) (map (λ r. r.signature) c.args.source.now.properties) (map (λ r. r.signature) c.args.source.now.type_specs) (map (λ r. r.instantiation) c.args.source.now.method_specs) (signatures_known c.args.source.now) fault (c.in_err-check_table.ensures.fault fault (cc) n))

pub check_table-requires-2-clause-short : goal.check_table-requires-2-clause-short
check_table-requires-2-clause-short c = short_methods c.args.source.now c.requires.short

pub returns-in_err-check_table-2-clause-fault : goal.returns-in_err-check_table-2-clause-fault
returns-in_err-check_table-2-clause-fault c =
    handed c.from_residual-in_err-check_table-2.result c.in_err-check_table-2.field-0.0 (SignatureFault c.args.at (heap_texts c.args.heap.now) (flat_map signature_of (all_cells c.args.source.now))) c.from_residual-in_err-check_table-2.ensures.1
    (λ fault e n. second_wrong c.args.at (heap_texts c.args.heap.now) (flat_map signature_of (all_cells c.args.source.now)) (map (λ r. r.signature) c.args.source.now.fields) (map (λ r. r.signature) c.args.source.now.methods) (map (λ r. r.signature) c.args.source.now.member_refs) (map (λ r. r.signature) c.args.source.now.stand_alone_sigs) (map (λ r. r.signature) c.args.source.now.properties) (map (λ r. r.signature) c.args.source.now.type_specs) (map (λ r. r.instantiation) c.args.source.now.method_specs) (signatures_known c.args.source.now) c.in_ok-check_table.ensures.found fault (c.in_err-check_table-2.ensures.fault fault (cc) n))

pub check_table-requires-3-clause-short : goal.check_table-requires-3-clause-short
check_table-requires-3-clause-short c = short_member_refs c.args.source.now c.requires.short

pub returns-in_err-check_table-3-clause-fault : goal.returns-in_err-check_table-3-clause-fault
returns-in_err-check_table-3-clause-fault c =
    handed c.from_residual-in_err-check_table-3.result c.in_err-check_table-3.field-0.0 (SignatureFault c.args.at (heap_texts c.args.heap.now) (flat_map signature_of (all_cells c.args.source.now))) c.from_residual-in_err-check_table-3.ensures.1
    (λ fault e n. third_wrong c.args.at (heap_texts c.args.heap.now) (flat_map signature_of (all_cells c.args.source.now)) (map (λ r. r.signature) c.args.source.now.fields) (map (λ r. r.signature) c.args.source.now.methods) (map (λ r. r.signature) c.args.source.now.member_refs) (map (λ r. r.signature) c.args.source.now.stand_alone_sigs) (map (λ r. r.signature) c.args.source.now.properties) (map (λ r. r.signature) c.args.source.now.type_specs) (map (λ r. r.instantiation) c.args.source.now.method_specs) (signatures_known c.args.source.now) c.in_ok-check_table.ensures.found c.in_ok-check_table-2.ensures.found fault (c.in_err-check_table-3.ensures.fault fault (cc) n))

pub check_table-requires-4-clause-short : goal.check_table-requires-4-clause-short
check_table-requires-4-clause-short c = short_stand_alone_sigs c.args.source.now c.requires.short

pub returns-in_err-check_table-4-clause-fault : goal.returns-in_err-check_table-4-clause-fault
returns-in_err-check_table-4-clause-fault c =
    handed c.from_residual-in_err-check_table-4.result c.in_err-check_table-4.field-0.0 (SignatureFault c.args.at (heap_texts c.args.heap.now) (flat_map signature_of (all_cells c.args.source.now))) c.from_residual-in_err-check_table-4.ensures.1
    (λ fault e n. fourth_wrong c.args.at (heap_texts c.args.heap.now) (flat_map signature_of (all_cells c.args.source.now)) (map (λ r. r.signature) c.args.source.now.fields) (map (λ r. r.signature) c.args.source.now.methods) (map (λ r. r.signature) c.args.source.now.member_refs) (map (λ r. r.signature) c.args.source.now.stand_alone_sigs) (map (λ r. r.signature) c.args.source.now.properties) (map (λ r. r.signature) c.args.source.now.type_specs) (map (λ r. r.instantiation) c.args.source.now.method_specs) (signatures_known c.args.source.now) c.in_ok-check_table.ensures.found c.in_ok-check_table-2.ensures.found c.in_ok-check_table-3.ensures.found fault (c.in_err-check_table-4.ensures.fault fault (cc) n))

pub check_table-requires-5-clause-short : goal.check_table-requires-5-clause-short
check_table-requires-5-clause-short c = short_properties c.args.source.now c.requires.short

pub returns-in_err-check_table-5-clause-fault : goal.returns-in_err-check_table-5-clause-fault
returns-in_err-check_table-5-clause-fault c =
    handed c.from_residual-in_err-check_table-5.result c.in_err-check_table-5.field-0.0 (SignatureFault c.args.at (heap_texts c.args.heap.now) (flat_map signature_of (all_cells c.args.source.now))) c.from_residual-in_err-check_table-5.ensures.1
    (λ fault e n. fifth_wrong c.args.at (heap_texts c.args.heap.now) (flat_map signature_of (all_cells c.args.source.now)) (map (λ r. r.signature) c.args.source.now.fields) (map (λ r. r.signature) c.args.source.now.methods) (map (λ r. r.signature) c.args.source.now.member_refs) (map (λ r. r.signature) c.args.source.now.stand_alone_sigs) (map (λ r. r.signature) c.args.source.now.properties) (map (λ r. r.signature) c.args.source.now.type_specs) (map (λ r. r.instantiation) c.args.source.now.method_specs) (signatures_known c.args.source.now) c.in_ok-check_table.ensures.found c.in_ok-check_table-2.ensures.found c.in_ok-check_table-3.ensures.found c.in_ok-check_table-4.ensures.found fault (c.in_err-check_table-5.ensures.fault fault (cc) n))

pub check_table-requires-6-clause-short : goal.check_table-requires-6-clause-short
check_table-requires-6-clause-short c = short_type_specs c.args.source.now c.requires.short

pub returns-in_err-check_table-6-clause-fault : goal.returns-in_err-check_table-6-clause-fault
returns-in_err-check_table-6-clause-fault c =
    handed c.from_residual-in_err-check_table-6.result c.in_err-check_table-6.field-0.0 (SignatureFault c.args.at (heap_texts c.args.heap.now) (flat_map signature_of (all_cells c.args.source.now))) c.from_residual-in_err-check_table-6.ensures.1
    (λ fault e n. sixth_wrong c.args.at (heap_texts c.args.heap.now) (flat_map signature_of (all_cells c.args.source.now)) (map (λ r. r.signature) c.args.source.now.fields) (map (λ r. r.signature) c.args.source.now.methods) (map (λ r. r.signature) c.args.source.now.member_refs) (map (λ r. r.signature) c.args.source.now.stand_alone_sigs) (map (λ r. r.signature) c.args.source.now.properties) (map (λ r. r.signature) c.args.source.now.type_specs) (map (λ r. r.instantiation) c.args.source.now.method_specs) (signatures_known c.args.source.now) c.in_ok-check_table.ensures.found c.in_ok-check_table-2.ensures.found c.in_ok-check_table-3.ensures.found c.in_ok-check_table-4.ensures.found c.in_ok-check_table-5.ensures.found fault (c.in_err-check_table-6.ensures.fault fault (cc) n))

pub check_table-requires-7-clause-short : goal.check_table-requires-7-clause-short
check_table-requires-7-clause-short c = short_method_specs c.args.source.now c.requires.short

pub returns-in_err-check_table-7-clause-fault : goal.returns-in_err-check_table-7-clause-fault
returns-in_err-check_table-7-clause-fault c =
    handed c.from_residual-in_err-check_table-7.result c.in_err-check_table-7.field-0.0 (SignatureFault c.args.at (heap_texts c.args.heap.now) (flat_map signature_of (all_cells c.args.source.now))) c.from_residual-in_err-check_table-7.ensures.1
    (λ fault e n. seventh_wrong c.args.at (heap_texts c.args.heap.now) (flat_map signature_of (all_cells c.args.source.now)) (map (λ r. r.signature) c.args.source.now.fields) (map (λ r. r.signature) c.args.source.now.methods) (map (λ r. r.signature) c.args.source.now.member_refs) (map (λ r. r.signature) c.args.source.now.stand_alone_sigs) (map (λ r. r.signature) c.args.source.now.properties) (map (λ r. r.signature) c.args.source.now.type_specs) (map (λ r. r.instantiation) c.args.source.now.method_specs) (signatures_known c.args.source.now) c.in_ok-check_table.ensures.found c.in_ok-check_table-2.ensures.found c.in_ok-check_table-3.ensures.found c.in_ok-check_table-4.ensures.found c.in_ok-check_table-5.ensures.found c.in_ok-check_table-6.ensures.found fault (c.in_err-check_table-7.ensures.fault fault (cc) n))

pub returns-clause-found : goal.returns-clause-found
returns-clause-found c = all_right c.args.at (heap_texts c.args.heap.now) (flat_map signature_of (all_cells c.args.source.now)) (map (λ r. r.signature) c.args.source.now.fields) (map (λ r. r.signature) c.args.source.now.methods) (map (λ r. r.signature) c.args.source.now.member_refs) (map (λ r. r.signature) c.args.source.now.stand_alone_sigs) (map (λ r. r.signature) c.args.source.now.properties) (map (λ r. r.signature) c.args.source.now.type_specs) (map (λ r. r.instantiation) c.args.source.now.method_specs) (signatures_known c.args.source.now) c.in_ok-check_table.ensures.found c.in_ok-check_table-2.ensures.found c.in_ok-check_table-3.ensures.found c.in_ok-check_table-4.ensures.found c.in_ok-check_table-5.ensures.found c.in_ok-check_table-6.ensures.found c.in_ok-check_table-7.ensures.found
