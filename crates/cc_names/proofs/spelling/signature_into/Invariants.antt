use Rattle.std.proofs.Common.{◌≡◌, ◌++◌, drop, map}
use Rattle.cc_names.specs.Spelling.{spelling, with_commas}
use Rattle.cc_names.proofs.spelling.signature_into.Given as goal

abbrev pub invariant-loop-parameter : goal.invariant-loop-parameter
invariant-loop-parameter l =
    l.text.items ++ with_commas (map (λ parameter. spelling parameter.of) (drop l.parameter-index l.parameter-items))
    ≡ l.initial.text.items ++ with_commas (map (λ parameter. spelling parameter.of) l.parameter-items)
