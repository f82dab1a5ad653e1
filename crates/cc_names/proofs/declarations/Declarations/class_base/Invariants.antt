use Rattle.std.proofs.Common.{◌≡◌, drop}
use Rattle.std.specs.Prelude.{find, nat_le, ◌&&◌}
use Rattle.std.specs.List.{list_any, filter_map}
use Rattle.cc_names.specs.Lookup as spec
use Rattle.cc_names.proofs.declarations.Declarations.class_base.Given as goal

abbrev pub invariant-loop-base : goal.invariant-loop-base
invariant-loop-base l = spec.class_base l.self.scopes l.self.items l.otherwise (filter_map (spec.class_named l.self.scopes l.self.items) (drop l.base-index l.bases)) ≡ spec.class_base l.self.scopes l.self.items l.otherwise (filter_map (spec.class_named l.self.scopes l.self.items) l.bases)
