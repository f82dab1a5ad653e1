use Rattle.std.proofs.Common.{◌≡◌, drop}
use Rattle.std.specs.Prelude.{find, nat_le, ◌&&◌}
use Rattle.std.specs.List.{list_any, filter_map}
use Rattle.cc_names.specs.Lookup as spec
use Rattle.cc_names.proofs.declarations.Declarations.hides.Given as goal

abbrev pub invariant-loop-member : goal.invariant-loop-member
invariant-loop-member l = spec.hides l.self.scopes l.self.items (drop l.member-index l.numbers) l.class l.number ≡ spec.hides l.self.scopes l.self.items l.numbers l.class l.number
