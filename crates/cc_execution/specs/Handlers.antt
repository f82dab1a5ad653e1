-- Exceptions and leaves (ECMA-335, I.12.4.2): a throw searches for a catch from the inside out, the handlers around the offset first, then those of the callers. Where there is none,
-- the run is aborted at once. Else the finally and fault handlers that lie between run one after another, and then the catch is entered. A leave runs the finally handlers that it leaves.
use Rattle.std.specs.Prelude.{ℕ, zero, suc, ◌==◌, ◌||◌, List, [], ◌∷◌, length, slice_get, Bool, false, Option, Some, None, nat_lt, if◌then◌else◌}
use Rattle.cc_base.specs.declared.identifiers.ClassId.{ClassId}
use Rattle.cc_base.specs.declared.running.Ending.TheVariants as ending
use Rattle.cc_cil.specs.declared.body.ClauseKind.{ClauseKind}
use Rattle.cc_cil.specs.declared.body.ClauseKind.TheVariants.{Catch, Finally, Fault}
use Rattle.cc_cil.specs.declared.body.Clause.{Clause}
use Rattle.cc_core.specs.declared.world.Object.{Object}
use Rattle.cc_core.specs.declared.world.World.{World}
use Rattle.cc_core.specs.declared.world.Value.TheVariants as value
use Rattle.cc_core.specs.declared.world.Value.{Value}
use Rattle.cc_core.specs.Frames.{left}
use Rattle.cc_core.specs.Run.{exception, with_object}
use Rattle.cc_core.specs.SourceRun.{message_of}
use Rattle.cc_execution.specs.declared.executable.ClassRow.{ClassRow}
use Rattle.cc_execution.specs.declared.executable.Executable.{Executable}
use Rattle.cc_execution.specs.declared.executable.Method.{Method}
use Rattle.cc_execution.specs.Links.{Link, Protected, Handling, chain, left_for}
use Rattle.cc_execution.specs.State.{Pending, Unwinding, Leaving, Caught, Frame, State, Next, Goes, Ends, Stuck}

-- ---- classes

abbrev pub names : List ℕ → ℕ → Bool
names [] token = false
names (t ∷ tokens) token = t == token || names tokens token

abbrev pub base_reaches : (ClassId → Bool) → Option ClassId → Bool
base_reaches further None = false
base_reaches further (Some base) = further base

abbrev pub row_reaches : (ClassId → Bool) → Option ClassRow → ℕ → Bool
row_reaches further None token = false
row_reaches further (Some row) token = names row.tokens token || base_reaches further row.base

-- a class, or one that it reaches through fewer bases than this, is named by the token
abbrev pub reaches : List ClassRow → ℕ → ClassId → ℕ → Bool
reaches classes zero class token = false
reaches classes (suc bases) class token = row_reaches (λ base. reaches classes bases base token) (slice_get classes class.0) token

-- no class reaches itself, so that there are no more bases than classes
abbrev pub derives : List ClassRow → ClassId → ℕ → Bool
derives classes class token = reaches classes (length classes) class token

abbrev pub object_derives : List ClassRow → Option Object → ℕ → Bool
object_derives classes None token = false
object_derives classes (Some object) token = derives classes object.«class» token

-- the exception at a place of the heap is of the class that the token names, or of one derived from it
abbrev pub matches : Executable → World → ℕ → ℕ → Bool
matches x w token e = object_derives x.classes (slice_get w.heap e) token

-- ---- the links around an offset

abbrev pub clauses_at : Option Method → List Clause
clauses_at None = []
clauses_at (Some method) = method.clauses

abbrev pub chain_at : Executable → ℕ → ℕ → List Link
chain_at x method at = chain (clauses_at (slice_get x.methods method)) at

-- without what the innermost handler runs for
abbrev pub outer : List Pending → List Pending
outer [] = []
outer (p ∷ pending) = pending

-- on with a method at an offset
abbrev pub go_on : ℕ → ℕ → List Value → List Pending → List Frame → World → Next
go_on method at stack pending callers w = Goes (record { now = record { method = method; at = at; stack = stack; pending = pending }; callers = callers; world = w })

-- ---- an exception that no catch is found for

abbrev pub aborts : Option (List ℕ) → Option (List ℕ) → World → Next
aborts None message w = Stuck
aborts (Some name) None w = Stuck
aborts (Some name) (Some message) w = Ends (ending.Aborted name message) w

-- with the full name of its class, and its message
abbrev pub uncaught : Executable → Option Object → World → Next
uncaught x None w = Stuck
uncaught x (Some object) w = let name = slice_get x.names (object.«class»).0 in aborts name (message_of name object.holds) w

abbrev pub aborted : Executable → ℕ → World → Next
aborted x e w = uncaught x (slice_get w.heap e) w

-- ---- the first pass: is there a catch

abbrev pub catches_in : ClauseKind → Bool → Bool → Bool
catches_in Catch matching other = matching || other
catches_in Finally matching other = other
catches_in Fault matching other = other

abbrev pub catches : Executable → World → ℕ → List Link → Bool → Bool
catches x w e [] further = further
catches x w e (Handling c ∷ links) further = catches x w e links further
catches x w e (Protected c ∷ links) further = catches_in c.kind (matches x w c.class e) (catches x w e links further)

abbrev pub callers_catch : Executable → World → ℕ → List Frame → Bool
callers_catch x w e [] = false
callers_catch x w e (f ∷ callers) = catches x w e (chain_at x f.method f.at) (callers_catch x w e callers)

-- ---- the second pass: the next handler from the inside out

-- the catch where it matches, the cleanup, or what lies further out
abbrev pub unwind_at : ClauseKind → Bool → Next → Next → Next → Next
unwind_at Catch matching into cleans other = if matching then into else other
unwind_at Finally matching into cleans other = cleans
unwind_at Fault matching into cleans other = cleans

-- Where no link is left the frame is dropped, and its callers go on with the exception.
abbrev pub unwind : Executable → (World → Next) → ℕ → List Link → ℕ → List Pending → List Frame → World → Next
unwind x further e [] method pending callers w = further (left w)
unwind x further e (Handling c ∷ links) method pending callers w = unwind x further e links method (outer pending) callers w
unwind x further e (Protected c ∷ links) method pending callers w =
    unwind_at c.kind (matches x w c.class e)
    (go_on method c.handler_first (value.Object e ∷ []) (Caught e ∷ pending) callers w)
    (go_on method c.handler_first [] (Unwinding e ∷ pending) callers w)
    (unwind x further e links method pending callers w)

abbrev pub unwind_callers : Executable → ℕ → List Frame → World → Next
unwind_callers x e [] w = aborted x e w
unwind_callers x e (f ∷ callers) w = unwind x (unwind_callers x e callers) e (chain_at x f.method f.at) f.method f.pending callers w

abbrev pub raise : Executable → ℕ → List Link → ℕ → List Pending → List Frame → World → Next
raise x e links method pending callers w = unwind x (unwind_callers x e callers) e links method pending callers w

-- ---- a throw: the first pass, and then the second

abbrev pub throw_among : Executable → ℕ → List Link → State → Next
throw_among x e links s =
    if catches x s.world e links (callers_catch x s.world e s.callers)
    then raise x e links s.now.method s.now.pending s.callers s.world
    else aborted x e s.world

abbrev pub throw : Executable → ℕ → State → Next
throw x e s = throw_among x e (chain_at x s.now.method s.now.at) s

abbrev pub with_world : World → State → State
with_world w s = record s { world = w }

-- an exception that the machine makes of a class: it takes 3 cells
abbrev pub throw_made : Executable → ClassId → State → Next
throw_made x class s =
    if nat_lt s.world.cells 3 then Ends ending.HeapLimit s.world
    else throw x (length s.world.heap) (with_world (with_object (exception class) 3 s.world) s)

-- ---- a leave

abbrev pub leave_at : ClauseKind → Next → Next → Next
leave_at Catch cleans other = other
leave_at Finally cleans other = cleans
leave_at Fault cleans other = other

-- the finally handlers of the links, from the inside out, and then the target (I.12.4.2.8.2, III.3.46)
abbrev pub go_out : ℕ → List Link → ℕ → List Pending → List Frame → World → Next
go_out to [] method pending callers w = go_on method to [] pending callers w
go_out to (Handling c ∷ links) method pending callers w = go_out to links method (outer pending) callers w
go_out to (Protected c ∷ links) method pending callers w =
    leave_at c.kind (go_on method c.handler_first [] (Leaving to ∷ pending) callers w) (go_out to links method pending callers w)

abbrev pub leave : Executable → ℕ → State → Next
leave x to s = go_out to (left_for (chain_at x s.now.method s.now.at) to) s.now.method s.now.pending s.callers s.world

-- ---- the ends of handlers

-- what the handler ran for goes on
abbrev pub end_handler : Executable → List Pending → State → Next
end_handler x (Unwinding e ∷ pending) s = raise x e (chain_at x s.now.method s.now.at) s.now.method s.now.pending s.callers s.world
end_handler x (Leaving to ∷ pending) s = leave x to s
end_handler x _ s = Stuck

-- the exception that was caught is thrown once more
abbrev pub rethrow : Executable → List Pending → State → Next
rethrow x (Caught e ∷ pending) s = throw x e s
rethrow x _ s = Stuck
