-- What handlers run for, as the definition of a run has it.
use Rattle.std.specs.Prelude.{ℕ, zero, suc, List, [], ◌∷◌, map, reverse, Option, Some, None, Vec}
use Rattle.std.specs.declared.alloc.Global.{Global}
use Rattle.cc_execution.specs.State as execution
use Rattle.cc_handlers.specs.declared.reasons.Pending.{Pending}
use Rattle.cc_handlers.specs.declared.reasons.Pending.TheVariants.{Unwinding, Leaving, Caught}
use Rattle.cc_handlers.specs.declared.reasons.PendingStack.{PendingStack}

abbrev pub pending_of : Pending → execution.Pending
pending_of (Unwinding e) = execution.Unwinding e
pending_of (Leaving to) = execution.Leaving to
pending_of (Caught e) = execution.Caught e

-- from the innermost on
abbrev pub pendings : List Pending → List execution.Pending
pendings items = reverse (map pending_of items)

abbrev pub waiting : Vec Pending Global → List execution.Pending
waiting v = pendings v.items

abbrev pub now_of : PendingStack → List execution.Pending
now_of s = pendings s.running.items

abbrev pub below_of : PendingStack → List (List execution.Pending)
below_of s = reverse (map waiting s.below.items)

abbrev pub innermost : List execution.Pending → Option execution.Pending
innermost [] = None
innermost (p ∷ pending) = Some p

-- without so many of the innermost
abbrev pub without : ℕ → List execution.Pending → List execution.Pending
without zero pending = pending
without (suc n) [] = []
without (suc n) (p ∷ pending) = without n pending

-- those of the nearest frame that waits, and of the others
abbrev pub first_of : List (List execution.Pending) → List execution.Pending
first_of [] = []
first_of (p ∷ below) = p

abbrev pub rest_of : List (List execution.Pending) → List (List execution.Pending)
rest_of [] = []
rest_of (p ∷ below) = below
