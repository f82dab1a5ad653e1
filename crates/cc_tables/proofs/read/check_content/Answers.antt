use Rattle.std.proofs.Common.{◌≡◌, subst}
use Rattle.cc_tables.specs.Reading.{streams_in, OrderFault, ContentFault}
use Rattle.cc_tables.proofs.Contents.{read_short, names_unused, blobs_unused, order_wrong, signature_wrong, all_used}
use Rattle.cc_tables.proofs.Checking.{on_ok}
use Rattle.cc_tables.proofs.Started.{handed}
use Rattle.cc_tables.proofs.read.check_content.Goals as goal

pub returns-in_err-check_used-clause-fault : goal.returns-in_err-check_used-clause-fault
returns-in_err-check_used-clause-fault c =
    handed c.from_residual.result c.in_err-check_used.field-0.0 (ContentFault c.args.lengths (streams_in c.args.lengths c.args.bytes.now) c.args.read.now.content) c.from_residual.ensures.1
    (λ fault e n. names_unused c.args.lengths c.args.bytes.now c.args.read.now.content c.args.read.now.names c.args.read.now.blobs c.requires.names c.requires.blobs c.piece-stream.result.now c.piece-stream.ensures fault (c.in_err-check_used.ensures.fault fault (cc) n))

pub returns-in_err-check_used-2-clause-fault : goal.returns-in_err-check_used-2-clause-fault
returns-in_err-check_used-2-clause-fault c =
    handed c.from_residual-in_err-check_used-2.result c.in_err-check_used-2.field-0.0 (ContentFault c.args.lengths (streams_in c.args.lengths c.args.bytes.now) c.args.read.now.content) c.from_residual-in_err-check_used-2.ensures.1
    (λ fault e n. blobs_unused c.args.lengths c.args.bytes.now c.args.read.now.content c.args.read.now.names c.args.read.now.blobs c.requires.names c.requires.blobs c.piece-stream.result.now c.piece-stream.ensures c.in_ok-check_used.ensures.found c.piece-stream-2.result.now c.piece-stream-2.ensures fault (c.in_err-check_used-2.ensures.fault fault (cc) n))

pub returns-in-Some-clause-fault : goal.returns-in-Some-clause-fault
returns-in-Some-clause-fault c =
    λ fault e n.
    let same : c.in-Some.fault ≡ fault = cc in
    order_wrong c.args.lengths c.args.bytes.now c.args.read.now.content c.args.read.now.names c.args.read.now.blobs c.requires.names c.requires.blobs c.piece-stream.result.now c.piece-stream.ensures c.in_ok-check_used.ensures.found c.piece-stream-2.result.now c.piece-stream-2.ensures c.in_ok-check_used-2.ensures.found fault (subst (OrderFault c.args.read.now.content) same c.in-Some.ensures.fault)

pub check_signatures-requires-clause-short : goal.check_signatures-requires-clause-short
check_signatures-requires-clause-short c = read_short c.args.lengths c.args.bytes.now c.args.read.now.content c.requires.rows

pub returns-clause-used : goal.returns-clause-used
returns-clause-used c = on_ok c.check_signatures.result _ (all_used c.args.lengths c.args.bytes.now c.args.read.now.content c.args.read.now.names c.args.read.now.blobs c.requires.names c.requires.blobs c.piece-stream.result.now c.piece-stream.ensures c.in_ok-check_used.ensures.found c.piece-stream-2.result.now c.piece-stream-2.ensures c.in_ok-check_used-2.ensures.found)

pub returns-clause-fault : goal.returns-clause-fault
returns-clause-fault c =
    λ fault e n. signature_wrong c.args.lengths c.args.bytes.now c.args.read.now.content c.args.read.now.names c.args.read.now.blobs c.requires.names c.requires.blobs c.piece-stream.result.now c.piece-stream.ensures c.in_ok-check_used.ensures.found c.piece-stream-2.result.now c.piece-stream-2.ensures c.in_ok-check_used-2.ensures.found c.in_default.ensures.sorted fault (c.check_signatures.ensures.fault fault e n)
