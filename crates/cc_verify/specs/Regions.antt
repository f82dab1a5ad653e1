-- Protected regions and their handlers (ECMA-335, II.19, II.25.4.6 and III.1.7.5): how clauses nest, and how control passes in and out of them.
--   in_try c at, in_handler c at   the offset lies in the protected code, in the handler
--   NestsIn d c                    of two clauses the earlier one stands beside the later one or within it, as a whole
--   may_enter c from to            control may come to a place of the clause, and `may_stay`, `may_leave` go from one
--   innermost cs at                the innermost region around an offset
use Rattle.std.specs.Prelude.{◌==◌, ◌&&◌, ◌||◌, not, ◌+◌, ℕ, Bool, true, false, List, [], ◌∷◌, nat_le, nat_lt, Option, Some, None, if◌then◌else◌}
use Rattle.cc_cil.specs.declared.body.ClauseKind.{ClauseKind}
use Rattle.cc_cil.specs.declared.body.ClauseKind.TheVariants.{Catch, Finally, Fault}
use Rattle.cc_cil.specs.declared.body.Clause.{Clause}

-- ---- ranges of offsets

abbrev pub try_past : Clause → ℕ
try_past c = c.try_first + c.try_length

abbrev pub handler_past : Clause → ℕ
handler_past c = c.handler_first + c.handler_length

abbrev pub in_range : ℕ → ℕ → ℕ → Bool
in_range first past at = nat_le first at && nat_lt at past

abbrev pub in_try : Clause → ℕ → Bool
in_try c at = in_range c.try_first (try_past c) at

abbrev pub in_handler : Clause → ℕ → Bool
in_handler c at = in_range c.handler_first (handler_past c) at

-- two ranges have no offset in common
abbrev pub are_apart : ℕ → ℕ → ℕ → ℕ → Bool
are_apart first past other_first other_past = nat_le past other_first || nat_le other_past first

-- the first range lies in the second
abbrev pub is_within : ℕ → ℕ → ℕ → ℕ → Bool
is_within first past other_first other_past = nat_le other_first first && nat_le past other_past

-- ---- how clauses nest: as wholes (II.19)

-- neither range is empty, and they are apart
abbrev pub is_clause : Clause → Bool
is_clause c = nat_lt 0 c.try_length && (nat_lt 0 c.handler_length && are_apart c.try_first (try_past c) c.handler_first (handler_past c))

-- a range is apart from both ranges of a clause
abbrev pub is_outside : ℕ → ℕ → Clause → Bool
is_outside first past c = are_apart first past c.try_first (try_past c) && are_apart first past c.handler_first (handler_past c)

-- all their ranges are apart
abbrev pub stand_apart : Clause → Clause → Bool
stand_apart d c = is_outside d.try_first (try_past d) c && is_outside d.handler_first (handler_past d) c

-- they protect the same code, and their handlers are apart
abbrev pub share_try : Clause → Clause → Bool
share_try d c = d.try_first == c.try_first && (d.try_length == c.try_length && are_apart d.handler_first (handler_past d) c.handler_first (handler_past c))

-- both ranges of the first lie in one range
abbrev pub lies_in : Clause → ℕ → ℕ → Bool
lies_in d first past = is_within d.try_first (try_past d) first past && is_within d.handler_first (handler_past d) first past

-- an earlier clause and a later one: the inner one stands first; no two handlers begin at one offset
abbrev pub nests : Clause → Clause → Bool
nests d c = not (d.handler_first == c.handler_first)
    && (stand_apart d c || (share_try d c || (lies_in d c.try_first (try_past c) || lies_in d c.handler_first (handler_past c))))

-- ---- passing from one place to another

abbrev pub is_catch : ClauseKind → Bool
is_catch Catch = true
is_catch Finally = false
is_catch Fault = false

-- A try is entered at its start, and no handler is entered.
abbrev pub may_enter : ℕ → ℕ → Clause → Bool
may_enter from to c = (not (in_try c to) || (in_try c from || to == c.try_first)) && (not (in_handler c to) || in_handler c from)

-- A branch and a fall stay in the protected code and in the handler.
abbrev pub may_stay : ℕ → ℕ → Clause → Bool
may_stay from to c = (not (in_try c from) || in_try c to) && (not (in_handler c from) || in_handler c to)

-- A leave stays in a handler that is no catch's.
abbrev pub may_leave : ℕ → ℕ → Clause → Bool
may_leave from to c = is_catch c.kind || (not (in_handler c from) || in_handler c to)

-- a branch or a fall, and a leave
abbrev pub may_pass : ℕ → ℕ → Clause → Bool
may_pass from to c = may_enter from to c && may_stay from to c

abbrev pub may_exit : ℕ → ℕ → Clause → Bool
may_exit from to c = may_enter from to c && may_leave from to c

-- the offset lies in neither range
abbrev pub is_out : ℕ → Clause → Bool
is_out at c = not (in_try c at) && not (in_handler c at)

-- the offset lies in no handler
abbrev pub handles_not : ℕ → Clause → Bool
handles_not at c = not (in_handler c at)

-- the clause's try begins at the offset
abbrev pub begins_try : ℕ → Clause → Bool
begins_try at c = c.try_first == at

-- ---- the innermost region

-- the kind of the innermost handler that is around an offset
abbrev pub innermost_handler : List Clause → ℕ → Option ClauseKind
innermost_handler [] at = None
innermost_handler (c ∷ cs) at = if in_handler c at then Some c.kind else innermost_handler cs at

-- the innermost region around an offset is a finally or fault handler, or there is none
abbrev pub ends_handler : List Clause → ℕ → Bool
ends_handler [] at = true
ends_handler (c ∷ cs) at = if in_try c at then false else if in_handler c at then not (is_catch c.kind) else ends_handler cs at

abbrev pub is_cleanup : Option ClauseKind → Bool
is_cleanup None = false
is_cleanup (Some kind) = not (is_catch kind)

abbrev pub is_catch_handler : Option ClauseKind → Bool
is_catch_handler None = false
is_catch_handler (Some kind) = is_catch kind

-- for each clause
abbrev pub each_clause : (Clause → Bool) → List Clause → Bool
each_clause test [] = true
each_clause test (c ∷ cs) = test c && each_clause test cs

abbrev pub some_clause : (Clause → Bool) → List Clause → Bool
some_clause test [] = false
some_clause test (c ∷ cs) = test c || some_clause test cs
