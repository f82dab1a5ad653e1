use Rattle.std.proofs.Common.{◌≡◌, drop}
use Rattle.cc_core.specs.Leave.{find_case}
use Rattle.cc_mean.proofs.sections.has_case.Given as goal

abbrev pub invariant-loop-label : goal.invariant-loop-label
invariant-loop-label l = find_case l.value (drop l.label-index l.labels) l.state ≡ find_case l.value l.labels l.initial.state
