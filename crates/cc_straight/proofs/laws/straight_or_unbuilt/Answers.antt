use Rattle.cc_straight.proofs.Readings as readings
use Rattle.cc_straight.proofs.laws.straight_or_unbuilt.Goals as goal

pub returns-clause-either : goal.returns-clause-either
returns-clause-either c = readings.straight_or_unbuilt

pub returns-clause-never_both : goal.returns-clause-never_both
returns-clause-never_both c = readings.never_both
