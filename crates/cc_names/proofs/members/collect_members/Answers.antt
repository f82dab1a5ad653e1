use Rattle.std.proofs.Common.{◌≡◌, ◌∙◌, sym, ap, arith, map}
use Rattle.cc_names.specs.Parts.{added, in_order}
use Rattle.cc_names.specs.Members.{member_declares}
use Rattle.cc_names.proofs.Adding.{next_part, no_more_parts, added_named}
use Rattle.cc_names.proofs.members.collect_members.Goals as goal

pub loop-member-preserved : goal.loop-member-preserved
loop-member-preserved c =
    next_part member_declares c.args.members.now c.loop-member.member-index c.member-item.result c.args.around c.loop-member.declared _ (omega arith) c.member-item.is (c.in_ok-collect_member.ensures)
    ∙ c.loop-member.invariant

pub returns : goal.returns
returns c =
    sym (no_more_parts member_declares c.args.members.now c.loop-member.member-index c.args.around c.loop-member.declared (omega arith))
    ∙ c.loop-member.invariant
