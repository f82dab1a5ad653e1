use Rattle.cc_straight.proofs.Readings as readings
use Rattle.cc_straight.proofs.laws.one_source.Goals as goal

pub returns-clause-one : goal.returns-clause-one
returns-clause-one c = readings.one_source

pub returns-clause-refused : goal.returns-clause-refused
returns-clause-refused c = readings.refuses_not_reads
