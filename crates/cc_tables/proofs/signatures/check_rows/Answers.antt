use Rattle.std.proofs.Common.{◌<◌, ◌^◌, length, map}
use Rattle.cc_tables.specs.Numbering.{heap_texts}
use Rattle.cc_tables.specs.Reading.{SignatureFault}
use Rattle.cc_tables.proofs.Signed.{one_of_all, one_more, one_bad}
use Rattle.cc_tables.proofs.Started.{handed}
use Rattle.cc_tables.proofs.signatures.check_rows.Goals as goal

pub check_signature-requires-clause-short : goal.check_signature-requires-clause-short
check_signature-requires-clause-short g c =
    rw c.signature.ensures (one_of_all g.R.Signed.signature c.args.rows.now c.loop-row.row-index c.row-item.result c.loop-row-test.true c.row-item.is (λ text. length text < 2 ^ 29) c.requires.short)

pub loop-row-preserved : goal.loop-row-preserved
loop-row-preserved g c =
    one_more g.R.Signed.signature c.args.rows.now c.loop-row.row-index c.row-item.result c.loop-row-test.true c.row-item.is c.loop-row.invariant (rw c.signature.ensures at c.in_ok-check_signature.ensures.found)

pub returns-in_err-check_signature-clause-fault : goal.returns-in_err-check_signature-clause-fault
returns-in_err-check_signature-clause-fault g c =
    handed c.from_residual.result c.in_err-check_signature.field-0.0 (SignatureFault c.args.at (heap_texts c.args.heap.now) (map g.R.Signed.signature c.args.rows.now)) c.from_residual.ensures.1
    (λ fault e n. one_bad g.R.Signed.signature c.args.rows.now c.loop-row.row-index c.row-item.result c.loop-row-test.true c.row-item.is c.args.at (heap_texts c.args.heap.now) fault c.loop-row.invariant
    (rw c.signature.ensures at c.in_err-check_signature.ensures.fault fault (cc) n))
