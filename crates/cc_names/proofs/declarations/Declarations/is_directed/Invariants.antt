use Rattle.std.proofs.Common.{◌≡◌, drop}
use Rattle.std.specs.Prelude.{find, nat_le, ◌&&◌}
use Rattle.std.specs.List.{list_any, filter_map}
use Rattle.cc_names.specs.Lookup as spec
use Rattle.cc_names.proofs.declarations.Declarations.is_directed.Given as goal

abbrev pub invariant-loop-directive : goal.invariant-loop-directive
invariant-loop-directive l = list_any (λ directive. nat_le directive.past l.at && spec.stands_in l.self.scopes l.self.items directive.scope l.number) (drop l.directive-index l.directive-items) ≡ list_any (λ directive. nat_le directive.past l.at && spec.stands_in l.self.scopes l.self.items directive.scope l.number) l.directive-items
