use Rattle.std.proofs.Common.{◌≡◌, ℕ, ◌<◌, Some, slice_get}
use Rattle.cc_core.specs.declared.types.CoreType.{CoreType}
use Rattle.cc_convert.specs.declared.conversion.Conversion.{Conversion}
use Rattle.cc_convert.specs.Overloads.{IsPassed}
use Rattle.cc_convert.proofs.overload.all_pass.Given as goal

abbrev pub invariant-loop-at : goal.invariant-loop-at
invariant-loop-at l =
    (k : ℕ) (argument parameter : CoreType) → k < l.at → slice_get l.given k ≡ Some argument → slice_get l.parameters k ≡ Some parameter
    → (conversion : Conversion) × IsPassed l.classes argument parameter conversion
