-- What a part of a source declares: the scopes in it and the declarations in it, both in order of place. A scope's number is its place in the list of all scopes,
-- so a part is described from the number of the scope around it and the number that its first own scope has.
use Rattle.std.specs.Prelude.{ℕ, ◌+◌, List, [], ◌∷◌, ◌++◌, length, Some}
use Rattle.cc_base.specs.declared.text.Span.{Span}
use Rattle.cc_tree.specs.declared.identifier.Identifier.{Identifier}
use Rattle.cc_names.specs.declared.scope.ScopeKind.{ScopeKind}
use Rattle.cc_names.specs.declared.scope.Scope.{Scope}
use Rattle.cc_names.specs.declared.scope.ItemKind.{ItemKind}
use Rattle.cc_names.specs.declared.scope.Item.{Item}
use Rattle.cc_names.specs.declared.scope.Declared.{Declared}

-- from the number of the scope around it, and the number of the first scope in it
abbrev pub Declares : Type 0
Declares = ℕ → ℕ → Declared

unfoldable pub nothing : Declares
nothing around next = record { scopes = []; items = [] }

-- a declaration of a name
unfoldable pub named : ItemKind → List ℕ → Span → Declares
named kind name span around next = record { scopes = []; items = record { kind = kind; name = name; span = span; scope = around } ∷ [] }

-- two parts, one after the other
unfoldable pub both : Declares → Declares → Declares
both first second around next =
    let one = first around next in
    let other = second around (next + length one.scopes) in
    record { scopes = one.scopes ++ other.scopes; items = one.items ++ other.items }

-- a scope, with what is declared in it
unfoldable pub inside : ScopeKind → Span → Declares → Declares
inside kind span part around next =
    let within = part next (next + 1) in
    record { scopes = record { kind = kind; parent = Some around; span = span } ∷ within.scopes; items = within.items }

-- a declaration that has a scope of its own
unfoldable pub opening : (ℕ → ItemKind) → Identifier → ScopeKind → Span → Declares → Declares
opening kind identifier scope_kind span part around next =
    both (named (kind next) identifier.name identifier.span) (inside scope_kind span part) around next

-- parts in a row
abbrev pub in_order : List Declares → Declares
in_order [] = nothing
in_order (part ∷ parts) = both part (in_order parts)

-- the scopes and declarations so far, and after them those of a part
unfoldable pub added : Declares → ℕ → Declared → Declared
added part around so_far =
    let more = part around (length so_far.scopes) in
    record { scopes = so_far.scopes ++ more.scopes; items = so_far.items ++ more.items }
