use Rattle.std.proofs.Common.{◌≡◌, drop}
use Rattle.std.specs.Prelude.{find, ◌&&◌, slice_get}
use Rattle.cc_names.specs.Lookup as lookup
use Rattle.cc_names.specs.Directives as spec
use Rattle.cc_names.proofs.declarations.Declarations.first_part.Given as goal

abbrev pub invariant-loop-number : goal.invariant-loop-number
invariant-loop-number l = find (λ number. lookup.is_item (λ item. spec.is_part item.kind) (slice_get l.self.items number) && lookup.stands_in l.self.scopes l.self.items l.scope number) (drop l.number-index l.number-items) ≡ find (λ number. lookup.is_item (λ item. spec.is_part item.kind) (slice_get l.self.items number) && lookup.stands_in l.self.scopes l.self.items l.scope number) l.number-items
