-- The spans of nodes.
use Rattle.std.specs.Prelude.{ℕ, List, [], ◌∷◌}
use Rattle.cc_base.specs.declared.text.Span.{Span}
use Rattle.cc_tree.specs.declared.token.Token.{Token}
use Rattle.cc_tree.specs.declared.identifier.Identifier.{Identifier}
use Rattle.cc_tree.specs.Terminals.{letters}

-- from the one to the other
abbrev pub across : Span → Span → Span
across first last = record { first = first.first; past = last.past }

-- the empty span where the other ends
abbrev pub after : Span → Span
after span = record { first = span.past; past = span.past }

abbrev pub identifier : Token → Identifier
identifier token = record { name = letters token.kind; span = token.span }

-- a name with the namespaces before it
abbrev pub qualified_span : List Identifier → Identifier → Span
qualified_span [] name = name.span
qualified_span (outer ∷ path) name = across outer.span name.span
