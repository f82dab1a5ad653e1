-- One scope or one declaration more.
use Rattle.std.specs.Prelude.{ℕ, List, [], ◌∷◌, ◌++◌, Option}
use Rattle.cc_base.specs.declared.text.Span.{Span}
use Rattle.cc_names.specs.declared.scope.ScopeKind.{ScopeKind}
use Rattle.cc_names.specs.declared.scope.Scope.{Scope}
use Rattle.cc_names.specs.declared.scope.ItemKind.{ItemKind}
use Rattle.cc_names.specs.declared.scope.Item.{Item}
use Rattle.cc_names.specs.declared.scope.Declared.{Declared}

unfoldable pub with_scope : ScopeKind → Option ℕ → Span → Declared → Declared
with_scope kind parent span so_far = record { scopes = so_far.scopes ++ record { kind = kind; parent = parent; span = span } ∷ []; items = so_far.items }

unfoldable pub with_item : ItemKind → List ℕ → Span → ℕ → Declared → Declared
with_item kind name span around so_far = record { scopes = so_far.scopes; items = so_far.items ++ record { kind = kind; name = name; span = span; scope = around } ∷ [] }
