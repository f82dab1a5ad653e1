use Rattle.std.proofs.Common.{rules, ◌≡◌, min}
use Rattle.cc_layout.specs.Layout.{peeked}
use Rattle.cc_tables.specs.Faults.{whole}
use Rattle.cc_tables.proofs.Fields.{lengths_known}
use Rattle.cc_tables.proofs.headers.lengths_in.Goals as goal

pub returns-clause-lengths : goal.returns-clause-lengths
returns-clause-lengths c =
    let bytes = c.args.bytes.now in
    let a : c.whole.result ≡ whole (peeked 4 36 bytes) = search rules in
    let b : c.whole-2.result ≡ whole (peeked 4 48 bytes) = search rules in
    let d : c.min.result ≡ min (whole (peeked 4 68 bytes)) 0xFFFFFC = search rules in
    let e : c.whole-4.result ≡ whole (peeked 4 96 bytes) = search rules in
    lengths_known bytes c.whole.result c.whole-2.result c.min.result c.whole-4.result a b d e
