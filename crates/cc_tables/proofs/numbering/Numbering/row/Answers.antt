use Rattle.std.proofs.Common.{refl}
use Rattle.cc_module.specs.Rows.{row}
use Rattle.cc_tables.proofs.Numbered.{meets_plain}
use Rattle.cc_tables.proofs.numbering.Numbering.row.Goals as goal

pub returns : goal.returns
returns c = meets_plain (row c.args.table c.args.index) c.args.self.now c.slot.new.self c.requires c.in_ok-slot.ensures.names c.in_ok-slot.ensures.blobs c.in_ok-slot.ensures.slots refl refl
