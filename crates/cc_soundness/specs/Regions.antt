-- The clauses whose handlers an offset lies in, and how the clauses of a method nest (ECMA-335, II.19 and I.12.4.2.7).
--   handling clauses at   those in whose handlers the offset lies, the inner ones first
--   Nested clauses        each clause stands beside each later one or within it
use Rattle.std.specs.Prelude.{◌≡◌, ◌||◌, not, ℕ, Bool, true, List, [], ◌∷◌, if◌then◌else◌}
use Rattle.cc_cil.specs.declared.body.Clause.{Clause}
use Rattle.cc_verify.specs.Regions.{in_handler, is_clause, nests, each_clause}

abbrev pub handling : List Clause → ℕ → List Clause
handling [] at = []
handling (c ∷ clauses) at = if in_handler c at then c ∷ handling clauses at else handling clauses at

abbrev pub Nested : List Clause → Type 0
Nested [] = Unit {0}
Nested (c ∷ clauses) = (is_clause c ≡ true) × (each_clause (λ d. nests c d) clauses ≡ true) × Nested clauses

-- on the way from one offset to another the clause's handler is not entered
abbrev pub enters_not : ℕ → ℕ → Clause → Bool
enters_not from to c = not (in_handler c to) || in_handler c from

-- what holds of each clause
abbrev pub EachClause : (Clause → Type 0) → List Clause → Type 0
EachClause P [] = Unit {0}
EachClause P (c ∷ clauses) = P c × EachClause P clauses
