use Rattle.std.proofs.Common.{◌≡◌, subst}
use Rattle.cc_tables.specs.Forms.{strings_heap, blob_heap, FormFault}
use Rattle.cc_tables.specs.Reading.{streams_in, FormsFault}
use Rattle.cc_tables.proofs.Checking.{strings_wrong, user_strings_wrong, user_strings_right, blobs_wrong, all_right}
use Rattle.cc_tables.proofs.Started.{handed}
use Rattle.cc_tables.proofs.read.read_forms.Goals as goal

pub returns-in-Some-clause-fault : goal.returns-in-Some-clause-fault
returns-in-Some-clause-fault c =
    λ fault e n.
    let same : c.in-Some.fault ≡ fault = cc in
    strings_wrong c.args.lengths c.args.bytes.now c.piece-stream.result.now c.piece-stream.ensures fault (subst (FormFault strings_heap _ c.piece-stream.result.now) same c.in-Some.ensures.fault)

pub returns-in_err-texts-clause-fault : goal.returns-in_err-texts-clause-fault
returns-in_err-texts-clause-fault c =
    handed c.from_residual.result c.in_err-texts.field-0.0 (FormsFault c.args.lengths (streams_in c.args.lengths c.args.bytes.now)) c.from_residual.ensures.1
    (λ fault e n. user_strings_wrong c.args.lengths c.args.bytes.now c.piece-stream.result.now c.piece-stream.ensures c.in_default.ensures.form c.piece-stream-2.result.now c.piece-stream-2.ensures fault (c.in_err-texts.ensures.fault fault (cc) n))

pub returns-in-Some-form_fault-clause-fault : goal.returns-in-Some-form_fault-clause-fault
returns-in-Some-form_fault-clause-fault c =
    λ fault e n.
    let same : c.in-Some-form_fault.fault ≡ fault = cc in
    blobs_wrong c.args.lengths c.args.bytes.now c.piece-stream.result.now c.piece-stream.ensures c.in_default.ensures.form c.piece-stream-2.result.now c.piece-stream-2.ensures _ c.in_ok-texts.ensures.form c.piece-stream-3.result.now c.piece-stream-3.ensures fault
    (subst (FormFault blob_heap _ c.piece-stream-3.result.now) same c.in-Some-form_fault.ensures.fault)

pub returns-clause-texts : goal.returns-clause-texts
returns-clause-texts c =
    user_strings_right c.args.lengths c.args.bytes.now c.piece-stream.result.now c.piece-stream.ensures c.in_default.ensures.form c.piece-stream-2.result.now c.piece-stream-2.ensures _ c.in_ok-texts.ensures.form

pub returns-clause-formed : goal.returns-clause-formed
returns-clause-formed c =
    all_right c.args.lengths c.args.bytes.now c.piece-stream.result.now c.piece-stream.ensures c.in_default.ensures.form c.piece-stream-2.result.now c.piece-stream-2.ensures _ c.in_ok-texts.ensures.form c.piece-stream-3.result.now c.piece-stream-3.ensures
    c.in_default-form_fault.ensures.form
