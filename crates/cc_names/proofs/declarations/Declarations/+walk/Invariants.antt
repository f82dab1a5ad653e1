use Rattle.std.proofs.Common.{◌≡◌, ◌+◌, ◌*◌, drop}
use Rattle.std.specs.List.{filter_map, flat_map}
use Rattle.cc_names.specs.Lookup as spec
use Rattle.cc_names.specs.Chains as chains
use Rattle.cc_names.proofs.declarations.Declarations.+walk.Given as goal

abbrev pub decreases-walk : goal.decreases-walk
decreases-walk l = 3 * l.left

abbrev pub decreases-walk_of : goal.decreases-walk_of
decreases-walk_of l = 3 * l.left + 2

abbrev pub decreases-walk_named : goal.decreases-walk_named
decreases-walk_named l = 3 * l.left + 1

abbrev pub invariant-walk_of-loop-name : goal.invariant-walk_of-loop-name
invariant-walk_of-loop-name l =
    chains.walk l.self.scopes l.self.items l.numbers l.number (flat_map (spec.chain_within l.self.scopes l.self.items l.left) (filter_map (spec.class_named l.self.scopes l.self.items) (drop l.name-index l.names)))
    ≡ chains.walk l.self.scopes l.self.items l.numbers l.number (flat_map (spec.chain_within l.self.scopes l.self.items l.left) (filter_map (spec.class_named l.self.scopes l.self.items) l.names))
