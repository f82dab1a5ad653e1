use Rattle.std.proofs.Common.{◌≡◌, ◌∙◌, sym, ap, arith, map}
use Rattle.cc_names.specs.Parts.{added, in_order}
use Rattle.cc_names.specs.Members.{parameter_declares}
use Rattle.cc_names.proofs.Adding.{next_part, no_more_parts, added_named}
use Rattle.cc_names.proofs.members.collect_parameters.Goals as goal

pub loop-parameter-preserved : goal.loop-parameter-preserved
loop-parameter-preserved c =
    next_part parameter_declares c.as_slice-parameter-items.result.now c.loop-parameter.parameter-index c.parameter-item.result c.args.around c.loop-parameter.declared _ (omega arith) c.parameter-item.is (c.in_ok-collect_parameter.ensures)
    ∙ c.loop-parameter.invariant

pub returns : goal.returns
returns c =
    sym (no_more_parts parameter_declares c.as_slice-parameter-items.result.now c.loop-parameter.parameter-index c.args.around c.loop-parameter.declared (omega arith))
    ∙ c.loop-parameter.invariant ∙ ap (λ all. added (in_order (map parameter_declares all)) c.args.around c.args.declared.now) c.as_slice-parameter-items.ensures
