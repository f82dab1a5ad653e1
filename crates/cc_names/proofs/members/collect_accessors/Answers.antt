use Rattle.std.proofs.Common.{◌≡◌, ◌∙◌, sym, ap, arith, map}
use Rattle.cc_names.specs.Parts.{added, in_order}
use Rattle.cc_names.specs.Members.{accessor_declares}
use Rattle.cc_names.proofs.Adding.{next_part, no_more_parts, added_named}
use Rattle.cc_names.proofs.members.collect_accessors.Goals as goal

pub loop-accessor-preserved : goal.loop-accessor-preserved
loop-accessor-preserved c =
    next_part (accessor_declares c.args.property.now) c.args.accessors.now c.loop-accessor.accessor-index c.accessor-item.result c.args.around c.loop-accessor.declared _ (omega arith) c.accessor-item.is (c.in_ok-collect_accessor.ensures)
    ∙ c.loop-accessor.invariant

pub returns : goal.returns
returns c =
    sym (no_more_parts (accessor_declares c.args.property.now) c.args.accessors.now c.loop-accessor.accessor-index c.args.around c.loop-accessor.declared (omega arith))
    ∙ c.loop-accessor.invariant
