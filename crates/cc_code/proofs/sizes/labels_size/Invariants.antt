use Rattle.std.proofs.Common.{◌≡◌, ◌+◌, drop}
use Rattle.cc_core.specs.Types.{bare}
use Rattle.cc_code.specs.Sizes.{labels_size}
use Rattle.cc_code.proofs.sizes.labels_size.Given as goal

abbrev pub invariant-loop-label : goal.invariant-loop-label
invariant-loop-label l = l.size + labels_size (bare l.of) (drop l.label-index l.labels) ≡ labels_size (bare l.of) l.labels
