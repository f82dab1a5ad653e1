use Rattle.std.proofs.Common.{◌∙◌, ap, length}
use Rattle.cc_module.specs.Metadata.{tables}
use Rattle.cc_tables.proofs.Counted.{length-counts_in}
use Rattle.cc_tables.proofs.counts.TableCounts.of_stream.Goals as goal

pub invariant_of-result : goal.invariant_of-result
invariant_of-result c = record { all = ap length c.in_ok-counts.ensures ∙ length-counts_in c.peek_number-valid.result 24 tables c.args.bytes.now }
