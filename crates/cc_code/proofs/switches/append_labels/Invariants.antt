use Rattle.std.proofs.Common.{◌≡◌, ◌≤◌, ◌++◌, drop}
use Rattle.cc_core.specs.Types.{bare}
use Rattle.cc_code.specs.Regions.{labels_code}
use Rattle.cc_code.specs.Sizes.{labels_size}
use Rattle.cc_code.proofs.switches.append_labels.Given as goal

abbrev pub invariant-loop-label : goal.invariant-loop-label
invariant-loop-label l = record {
  size : l.left ≡ labels_size (bare l.of) (drop l.label-index l.labels);
  bound : l.left ≤ labels_size (bare l.of) l.labels;
  code : l.code.items ++ labels_code l.parameters l.local (bare l.of) (drop l.label-index l.labels) l.past
      ≡ l.initial.code.items ++ labels_code l.parameters l.local (bare l.of) l.labels l.past;
}
