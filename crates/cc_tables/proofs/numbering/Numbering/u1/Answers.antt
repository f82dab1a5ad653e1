use Rattle.std.proofs.Common.{refl}
use Rattle.cc_module.specs.Rows.{u1}
use Rattle.cc_tables.proofs.Numbered.{meets_plain}
use Rattle.cc_tables.proofs.numbering.Numbering.u1.Goals as goal

pub returns : goal.returns
returns c = meets_plain (u1 c.args.value) c.args.self.now c.slot.new.self c.requires c.in_ok-slot.ensures.names c.in_ok-slot.ensures.blobs c.in_ok-slot.ensures.slots refl refl
