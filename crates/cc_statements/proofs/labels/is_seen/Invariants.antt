use Rattle.std.proofs.Common.{◌≡◌, drop}
use Rattle.cc_statements.specs.Steps.{is_seen}
use Rattle.cc_statements.proofs.labels.is_seen.Given as goal

abbrev pub invariant-loop-label : goal.invariant-loop-label
invariant-loop-label l = is_seen l.one (drop l.label-index l.labels) ≡ is_seen l.one l.labels
