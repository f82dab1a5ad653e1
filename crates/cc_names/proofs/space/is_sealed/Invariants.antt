use Rattle.std.proofs.Common.{◌≡◌, drop}
use Rattle.std.specs.List.{list_any}
use Rattle.cc_names.specs.Types as types
use Rattle.cc_names.proofs.space.is_sealed.Given as goal

abbrev pub invariant-loop-modifier : goal.invariant-loop-modifier
invariant-loop-modifier l = list_any types.is_sealed_word (drop l.modifier-index l.modifiers) ≡ list_any types.is_sealed_word l.modifiers
