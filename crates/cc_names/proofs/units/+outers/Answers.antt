use Rattle.std.proofs.Common.{◌≡◌, ◌∙◌, sym, ap, arith, map}
use Rattle.cc_names.specs.Parts.{added, in_order}
use Rattle.cc_names.specs.Units.{outer_declares}
use Rattle.cc_names.proofs.Adding.{next_part, no_more_parts, added_named}
use Rattle.cc_names.proofs.units.+outers.Goals as goal

pub collect_outers-loop-outer-preserved : goal.collect_outers-loop-outer-preserved
collect_outers-loop-outer-preserved t c =
    next_part outer_declares c.args.outers.now c.loop-outer.outer-index c.outer-item.result c.args.around c.loop-outer.declared _ (omega arith) c.outer-item.is (c.in_ok-collect_outer.ensures)
    ∙ c.loop-outer.invariant

pub collect_outers-returns : goal.collect_outers-returns
collect_outers-returns t c =
    sym (no_more_parts outer_declares c.args.outers.now c.loop-outer.outer-index c.args.around c.loop-outer.declared (omega arith))
    ∙ c.loop-outer.invariant
