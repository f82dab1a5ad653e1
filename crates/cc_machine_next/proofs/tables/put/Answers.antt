use Rattle.std.proofs.Common.{◌∙◌, arith}
use Rattle.cc_machine_next.proofs.Tabling.{put_there, put_other, kept_front}
use Rattle.cc_machine_next.proofs.tables.put.Goals as goal

pub returns-clause-there : goal.returns-clause-there
returns-clause-there c = put_there c.reach.new.entries.items c.args.at c.args.entry (omega (arith, c.in_ok-reach.ensures.reaches))

pub returns-clause-others : goal.returns-clause-others
returns-clause-others c k e other there =
    put_other c.reach.new.entries.items c.args.at k c.args.entry other ∙ kept_front c.args.entries.now.items c.reach.new.entries.items k e c.reach.ensures.kept there
