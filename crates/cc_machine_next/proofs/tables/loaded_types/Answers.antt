use Rattle.std.proofs.Common.{◌<◌, length, ap, ◌∙◌, arith}
use Rattle.std.proofs.lemmas.List.{take_all}
use Rattle.std.proofs.lemmas.Option.{slice_get-get_or}
use Rattle.cc_execution.specs.Operations.{loaded}
use Rattle.cc_machine_next.proofs.Tabling.{types_more}
use Rattle.cc_machine_next.proofs.tables.loaded_types.Goals as goal

pub loop-i-preserved : goal.loop-i-preserved
loop-i-preserved c =
    let parameters = c.args.parameters.now in let i = c.loop-i.i in
    let low : i < length parameters = omega arith in
    types_more parameters i c.loop-i.types.items c.add_loaded.new.types.items _ (slice_get-get_or parameters i _ low) c.loop-i.invariant c.in_ok-add_loaded.ensures

pub returns : goal.returns
returns c = c.loop-i.invariant ∙ ap loaded (take_all c.loop-i.i c.args.parameters.now (omega arith))
