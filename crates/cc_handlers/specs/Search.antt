-- Which catch of a method takes an exception (ECMA-335, I.12.4.2.5).
--   catch_from matching at place clauses    the first of clauses, whose places begin with this one, that is a catch around the offset for a class that matches
use Rattle.std.specs.Prelude.{ℕ, ◌+◌, List, [], ◌∷◌, Bool, false, ◌&&◌, Option, Some, None, if◌then◌else◌}
use Rattle.cc_cil.specs.declared.body.ClauseKind.{ClauseKind}
use Rattle.cc_cil.specs.declared.body.ClauseKind.TheVariants.{Catch, Finally, Fault}
use Rattle.cc_cil.specs.declared.body.Clause.{Clause}
use Rattle.cc_execution.specs.Links.{in_try}
use Rattle.cc_handlers.specs.declared.search.HandlerPlace.{HandlerPlace}

abbrev pub taken_by : ClauseKind → Bool → Bool
taken_by Catch around = around
taken_by Finally around = false
taken_by Fault around = false

-- the clause is a catch around the offset for a class that matches
abbrev pub takes : (ℕ → Bool) → ℕ → Clause → Bool
takes matching at c = taken_by c.kind (in_try c at && matching c.class)

abbrev pub place_of : ℕ → Clause → HandlerPlace
place_of place c = record { clause = place; first = c.handler_first }

-- the first of clauses that does, where their places begin with this one
abbrev pub catch_from : (ℕ → Bool) → ℕ → ℕ → List Clause → Option HandlerPlace
catch_from matching at place [] = None
catch_from matching at place (c ∷ clauses) = if takes matching at c then Some (place_of place c) else catch_from matching at (place + 1) clauses
