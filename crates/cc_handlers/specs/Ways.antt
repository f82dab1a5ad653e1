-- What a throw or a leave comes to in a frame, clause by clause from the inside out (ECMA-335, I.12.4.2.5 and III.3.46).
--   turn_at classes departure at c             at one clause
--   way_out classes departure at clauses        at all of them
use Rattle.std.specs.Prelude.{ℕ, ◌+◌, List, [], ◌∷◌, Bool, true, false, Some, None, if◌then◌else◌}
use Rattle.cc_cil.specs.declared.body.ClauseKind.{ClauseKind}
use Rattle.cc_cil.specs.declared.body.ClauseKind.TheVariants.{Catch, Finally, Fault}
use Rattle.cc_cil.specs.declared.body.Clause.{Clause}
use Rattle.cc_execution.specs.declared.executable.ClassRow.{ClassRow}
use Rattle.cc_execution.specs.Links.{in_try, in_handler}
use Rattle.cc_handlers.specs.declared.ways.Departure.{Departure}
use Rattle.cc_handlers.specs.declared.ways.Departure.TheVariants.{Exception, Leave}
use Rattle.cc_handlers.specs.declared.ways.Turn.{Turn}
use Rattle.cc_handlers.specs.declared.ways.Turn.TheVariants.{On, Out, Stop, Into}
use Rattle.cc_handlers.specs.declared.ways.Way.{Way}
use Rattle.cc_handlers.specs.Classes.{is_of}

abbrev pub enters : ℕ → Bool → Turn
enters first catches = Into (record { first = first; catches = catches })

-- an exception leaves protected code: a catch takes it where its class matches, a finally or a fault handler runs
abbrev pub thrown_turn : ClauseKind → Bool → ℕ → Turn
thrown_turn Catch matching first = if matching then enters first true else On
thrown_turn Finally matching first = enters first false
thrown_turn Fault matching first = enters first false

-- a leave leaves it: a finally handler runs
abbrev pub leave_turn : ClauseKind → ℕ → Turn
leave_turn Catch first = On
leave_turn Finally first = enters first false
leave_turn Fault first = On

abbrev pub protected_turn : List ClassRow → Departure → Clause → Turn
protected_turn classes (Exception thrown) c = thrown_turn c.kind (is_of classes thrown c.class) c.handler_first
protected_turn classes (Leave to) c = if in_try c to then Stop else leave_turn c.kind c.handler_first

abbrev pub handling_turn : Departure → Clause → Turn
handling_turn (Exception thrown) c = Out
handling_turn (Leave to) c = if in_handler c to then Stop else Out

abbrev pub turn_at : List ClassRow → Departure → ℕ → Clause → Turn
turn_at classes d at c = if in_try c at then protected_turn classes d c else if in_handler c at then handling_turn d c else On

-- the way out by the turn at the innermost clause, and the way from there
abbrev pub by_turn : Turn → Way → Way
by_turn On way = way
by_turn Out way = record { left = way.left + 1; into = way.into }
by_turn Stop way = record { left = 0; into = None }
by_turn (Into entrance) way = record { left = 0; into = Some entrance }

abbrev pub way_out : List ClassRow → Departure → ℕ → List Clause → Way
way_out classes d at [] = record { left = 0; into = None }
way_out classes d at (c ∷ clauses) = by_turn (turn_at classes d at c) (way_out classes d at clauses)
