-- What may still be counted once nodes are counted one after another.
use Rattle.std.specs.Prelude.{ℕ, ◌+◌, ◌-◌, Option, Some, None, Bool, true, ◌&&◌, nat_le, cond, Result, Ok, Err}
use Rattle.cc_base.specs.declared.text.Span.{Span}
use Rattle.cc_template.specs.declared.room.Room.{Room}
use Rattle.cc_template.specs.Nodes.{Nodes, none, node, both, function}

-- so much may still be counted in a function, where there is one
abbrev pub fits : ℕ → Option ℕ → Bool
fits more None = true
fits more (Some left) = nat_le more left

abbrev pub less : ℕ → Option ℕ → Option ℕ
less more None = None
less more (Some left) = Some (left - more)

-- what is left once so much more is counted at a place
abbrev pub counting : Span → ℕ → Room → Result Room Span
counting span more room =
    cond (nat_le more room.in_all && fits more room.in_function)
    (Ok (record { in_all = room.in_all - more; in_function = less more room.in_function })) (Err span)

-- the next step, where the one before went well
abbrev pub next : {A B : Type 0} → Result A Span → (A → Result B Span) → Result B Span
next (Ok room) step = step room
next (Err span) step = Err span

-- In a function in a function what is counted in the outer one decides, since all that the inner one counts is counted there.
abbrev pub in_a_function : Option ℕ → ℕ
in_a_function None = 20_000
in_a_function (Some left) = left

abbrev pub entered : Room → Room
entered room = record { in_all = room.in_all; in_function = Some (in_a_function room.in_function) }

-- behind a function that was entered from such a room
abbrev pub ended : Option ℕ → Room → Room
ended None room = record { in_all = room.in_all; in_function = None }
ended (Some left) room = room

abbrev pub ends : Option ℕ → Result Room Span → Result Room Span
ends before (Ok room) = Ok (ended before room)
ends before (Err span) = Err span

-- what is left once nodes are counted
abbrev pub run : Nodes → Room → Result Room Span
run none room = Ok room
run (node span more parts) room = next (counting span (1 + more) room) (run parts)
run (both first second) room = next (run first room) (run second)
run (function nodes) room = ends room.in_function (run nodes (entered room))
