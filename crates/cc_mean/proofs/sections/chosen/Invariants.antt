use Rattle.std.proofs.Common.{◌≡◌, drop}
use Rattle.cc_core.specs.Lists.{sections_of}
use Rattle.cc_mean.specs.Chosen.{chosen_from}
use Rattle.cc_mean.proofs.sections.chosen.Given as goal

abbrev pub invariant-loop-at : goal.invariant-loop-at
invariant-loop-at l =
    let all = sections_of l.sections in chosen_from all l.value (sections_of (drop l.at l.sections)) l.state ≡ chosen_from all l.value all l.initial.state
