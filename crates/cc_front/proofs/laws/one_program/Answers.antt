use Rattle.cc_front.proofs.Readings as readings
use Rattle.cc_front.proofs.laws.one_program.Goals as goal

pub returns-clause-one : goal.returns-clause-one
returns-clause-one c = readings.one_program

pub returns-clause-meaning : goal.returns-clause-meaning
returns-clause-meaning c = readings.one_meaning

pub returns-clause-refused : goal.returns-clause-refused
returns-clause-refused c = readings.refused_has_none
