use Rattle.std.proofs.Common.{◌≡◌, ◌+◌, ◌*◌, drop}
use Rattle.std.specs.List.{filter_map, flat_map}
use Rattle.cc_names.specs.Lookup as spec
use Rattle.cc_names.proofs.declarations.Declarations.+nearest.Given as goal

abbrev pub decreases-nearest : goal.decreases-nearest
decreases-nearest l = 3 * l.left

abbrev pub decreases-nearest_of : goal.decreases-nearest_of
decreases-nearest_of l = 3 * l.left + 2

abbrev pub decreases-nearest_named : goal.decreases-nearest_named
decreases-nearest_named l = 3 * l.left + 1

abbrev pub invariant-nearest_of-loop-name : goal.invariant-nearest_of-loop-name
invariant-nearest_of-loop-name l =
    spec.nearest l.self.scopes l.self.items l.numbers (flat_map (spec.chain_within l.self.scopes l.self.items l.left) (filter_map (spec.class_named l.self.scopes l.self.items) (drop l.name-index l.names)))
    ≡ spec.nearest l.self.scopes l.self.items l.numbers (flat_map (spec.chain_within l.self.scopes l.self.items l.left) (filter_map (spec.class_named l.self.scopes l.self.items) l.names))
