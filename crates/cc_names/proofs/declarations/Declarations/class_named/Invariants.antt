use Rattle.std.proofs.Common.{◌≡◌, drop}
use Rattle.std.specs.Prelude.{find, slice_get, nat_le, ◌&&◌}
use Rattle.std.specs.List.{list_any, filter_map}
use Rattle.cc_names.specs.Lookup as spec
use Rattle.cc_names.proofs.declarations.Declarations.class_named.Given as goal

abbrev pub invariant-loop-number : goal.invariant-loop-number
invariant-loop-number l = find (λ number. spec.is_item (λ item. spec.is_class item.kind) (slice_get l.self.items number)) (drop l.number-index l.number-items) ≡ find (λ number. spec.is_item (λ item. spec.is_class item.kind) (slice_get l.self.items number)) l.number-items
