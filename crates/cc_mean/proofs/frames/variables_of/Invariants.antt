use Rattle.std.proofs.Common.{◌≡◌, ◌++◌, drop}
use Rattle.std.specs.Option.{option_map}
use Rattle.cc_core.specs.Frames.{zeros_of}
use Rattle.cc_mean.proofs.frames.variables_of.Given as goal

abbrev pub invariant-loop-of : goal.invariant-loop-of
invariant-loop-of l = option_map (λ zeros. l.variables ++ zeros) (zeros_of (drop l.of-index l.further)) ≡ option_map (λ zeros. l.fn.arguments ++ zeros) (zeros_of l.further)
