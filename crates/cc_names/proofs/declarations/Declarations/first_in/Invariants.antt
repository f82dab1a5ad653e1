use Rattle.std.proofs.Common.{◌≡◌, drop}
use Rattle.std.specs.Prelude.{find, nat_le, ◌&&◌}
use Rattle.std.specs.List.{list_any, filter_map}
use Rattle.cc_names.specs.Lookup as spec
use Rattle.cc_names.proofs.declarations.Declarations.first_in.Given as goal

abbrev pub invariant-loop-number : goal.invariant-loop-number
invariant-loop-number l = find (spec.stands_in l.self.scopes l.self.items l.scope) (drop l.number-index l.numbers) ≡ find (spec.stands_in l.self.scopes l.self.items l.scope) l.numbers
