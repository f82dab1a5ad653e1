-- The walk over the nodes of a unit: each in order, with what was counted up to it in all and in each function that it is in,
-- and the first that makes a count pass its limit.
use Rattle.std.specs.Prelude.{ℕ, ◌+◌, List, [], ◌∷◌, ◌++◌, Option, Some, None, Bool, false, ◌||◌, cond, nat_lt, Result, Ok, Err}
use Rattle.cc_base.specs.declared.text.Span.{Span}
use Rattle.cc_tree.specs.declared.unit.Unit as unit
use Rattle.cc_template.specs.Nodes.{Nodes, none, node, both, function, unit_nodes}

-- a node that is visited: its place, how much it counts, and what was counted up to it, itself included, in each function that
-- it is a part of or is
pub record Visited : Type 0 where
  pub span : Span
  pub counts : ℕ
  pub in_functions : List ℕ

-- the nodes of a function, from one on before which so much was counted in it
abbrev pub in_function : ℕ → List Visited → List Visited
in_function before [] = []
in_function before (one ∷ nodes) =
    record { span = one.span; counts = one.counts; in_functions = (before + one.counts) ∷ one.in_functions }
    ∷ in_function (before + one.counts) nodes

-- A node is visited before its parts, and the parts in order. Every node counts one.
abbrev pub walk : Nodes → List Visited
walk none = []
walk (node span more parts) = record { span = span; counts = 1 + more; in_functions = [] } ∷ walk parts
walk (both first second) = walk first ++ walk second
walk (function nodes) = in_function 0 (walk nodes)

-- how much nodes count together
abbrev pub total : List Visited → ℕ
total [] = 0
total (one ∷ nodes) = one.counts + total nodes

abbrev pub is_any_over : ℕ → List ℕ → Bool
is_any_over limit [] = false
is_any_over limit (count ∷ counts) = nat_lt limit count || is_any_over limit counts

-- More than 200,000 were counted in all up to a node, or more than 20,000 in a function.
abbrev pub passes_limit : ℕ → Visited → Bool
passes_limit in_all one = nat_lt 200_000 in_all || is_any_over 20_000 one.in_functions

-- the place of the first node that makes a count pass its limit, where so much was counted before these in all
abbrev pub first_past : ℕ → List Visited → Option Span
first_past before [] = None
first_past before (one ∷ nodes) = cond (passes_limit (before + one.counts) one) (Some one.span) (first_past (before + one.counts) nodes)

abbrev pub verdict : Option Span → ℕ → Result ℕ Span
verdict None count = Ok count
verdict (Some span) count = Err span

-- how much the nodes of a unit count, or the place of the first that makes a count pass its limit
abbrev pub counted : unit.Unit → Result ℕ Span
counted tree = verdict (first_past 0 (walk (unit_nodes tree))) (total (walk (unit_nodes tree)))
