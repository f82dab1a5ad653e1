use Rattle.std.proofs.Common.{◌≡◌, drop}
use Rattle.std.specs.Prelude.{find, slice_get}
use Rattle.cc_names.specs.Types as spec
use Rattle.cc_names.specs.Spaces.{space}
use Rattle.cc_names.proofs.find_type.Here.found_number.Given as goal

abbrev pub invariant-loop-number : goal.invariant-loop-number
invariant-loop-number l = find (λ number. spec.is_type_in_sight (space l.self.space.now).directives (record { path = l.self.path.now; at = l.at }) l.names (slice_get (space l.self.space.now).types number)) (drop l.number-index l.number-items) ≡ find (λ number. spec.is_type_in_sight (space l.self.space.now).directives (record { path = l.self.path.now; at = l.at }) l.names (slice_get (space l.self.space.now).types number)) l.number-items
