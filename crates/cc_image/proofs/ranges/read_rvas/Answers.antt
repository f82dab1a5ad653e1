use Rattle.std.proofs.Common.{◌<◌, ◌^◌}
use Rattle.cc_module.specs.declared.rows.MethodDefRow.{MethodDefRow}
use Rattle.cc_image.proofs.Joined.{all_more}
use Rattle.cc_image.proofs.ranges.read_rvas.Goals as goal

pub loop-method-preserved : goal.loop-method-preserved
loop-method-preserved c = all_more (λ (method : MethodDefRow). method.rva < 2 ^ 32) c.args.methods.now c.loop-method.method-index c.method-item.result c.loop-method-test.true c.method-item.is c.loop-method.invariant c.read_rva.ensures
