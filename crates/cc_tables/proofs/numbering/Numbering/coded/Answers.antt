use Rattle.std.proofs.Common.{refl}
use Rattle.cc_module.specs.Rows.{coded}
use Rattle.cc_tables.proofs.Numbered.{meets_plain}
use Rattle.cc_tables.proofs.numbering.Numbering.coded.Goals as goal

pub returns : goal.returns
returns c = meets_plain (coded c.args.kind c.args.code) c.args.self.now c.slot.new.self c.requires c.in_ok-slot.ensures.names c.in_ok-slot.ensures.blobs c.in_ok-slot.ensures.slots refl refl
