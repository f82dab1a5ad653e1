use Rattle.std.proofs.Common.{◌≡◌, None, drop}
use Rattle.std.specs.Option.{option_copied}
use Rattle.cc_terms.specs.Resolving.{newest_from}
use Rattle.cc_terms.proofs.resolving.newest.Given as goal

abbrev pub invariant-loop-variable : goal.invariant-loop-variable
invariant-loop-variable l = newest_from l.name (option_copied l.found) (drop l.variable-index l.variables) ≡ newest_from l.name None l.variables
