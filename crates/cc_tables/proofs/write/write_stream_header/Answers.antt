use Rattle.std.proofs.Common.{arith}
use Rattle.cc_layout.proofs.Numbers.{AreBytes-each}
use Rattle.cc_tables.proofs.Written.{header_written}
use Rattle.cc_tables.proofs.write.write_stream_header.Goals as goal

pub returns : goal.returns
returns c =
    header_written c.args.offset c.args.size c.args.title.now _ _ _ _ (AreBytes-each c.args.title.now (λ i. omega (arith, c.type_inv.title i))) c.in_ok-write_number.ensures.ok c.in_ok-write_number-2.ensures.ok
    c.in_ok-extend_from_slice.ensures.items
