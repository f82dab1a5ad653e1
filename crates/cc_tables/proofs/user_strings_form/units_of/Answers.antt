use Rattle.cc_tables.proofs.UserStrings.{units_done}
use Rattle.cc_tables.proofs.user_strings_form.units_of.Goals as goal

pub returns-clause-pairs : goal.returns-clause-pairs
returns-clause-pairs c = units_done c.loop-unit.units.items c.loop-unit.rest.now c.args.pairs.now c.loop-unit.invariant.parts c.in_default.ensures c.requires
