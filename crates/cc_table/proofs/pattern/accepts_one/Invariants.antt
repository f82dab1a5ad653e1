use Rattle.std.proofs.Common.{◌≡◌, drop}
use Rattle.cc_table.specs.Choice as spec
use Rattle.cc_table.proofs.pattern.accepts_one.Given as goal

abbrev pub invariant-loop-pattern : goal.invariant-loop-pattern
invariant-loop-pattern l = spec.accepts_one l.patterns l.input ≡ spec.accepts_one (drop l.pattern-index l.patterns) l.input
