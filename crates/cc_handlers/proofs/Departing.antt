-- What throws and leaves come to is what the definition of a run says.
use Rattle.std.proofs.Common.{◌≡◌, ℕ, zero, suc, ◌+◌, List, [], ◌∷◌, ◌++◌, refl, sym, ap, ◌∙◌, arith}
use Rattle.std.specs.Prelude.{Bool, true, false, ◌&&◌, Option, Some, None, if◌then◌else◌}
use Rattle.cc_base.specs.declared.identifiers.ClassId.{ClassId}
use Rattle.cc_cil.specs.declared.body.ClauseKind.{ClauseKind}
use Rattle.cc_cil.specs.declared.body.ClauseKind.TheVariants.{Catch, Finally, Fault}
use Rattle.cc_cil.specs.declared.body.Clause.{Clause}
use Rattle.cc_core.specs.declared.world.World.{World}
use Rattle.cc_core.specs.declared.world.Value.TheVariants as value
use Rattle.cc_core.specs.Frames.{left}
use Rattle.cc_execution.specs.declared.executable.Executable.{Executable}
use Rattle.cc_execution.specs.State.{Pending, Unwinding, Leaving, Caught, Frame, Next}
use Rattle.cc_execution.specs.Links.{Link, Protected, Handling, in_try, in_handler, chain, left_for}
use Rattle.cc_execution.specs.Handlers.{matches, outer, go_on, catches_in, catches, unwind_at, unwind, leave_at, go_out}
use Rattle.cc_handlers.specs.declared.search.HandlerPlace.{HandlerPlace}
use Rattle.cc_handlers.specs.declared.ways.Departure.TheVariants.{Exception, Leave}
use Rattle.cc_handlers.specs.declared.ways.Entrance.{Entrance}
use Rattle.cc_handlers.specs.declared.ways.Turn.TheVariants.{On, Out, Stop}
use Rattle.cc_handlers.specs.declared.ways.Way.{Way}
use Rattle.cc_handlers.specs.Classes.{is_of}
use Rattle.cc_handlers.specs.Search.{taken_by, place_of, catch_from}
use Rattle.cc_handlers.specs.Pendings.{without}
use Rattle.cc_handlers.specs.Ways.{thrown_turn, leave_turn, protected_turn, handling_turn, by_turn, way_out}

-- one handler more is left
outer_without : (n : ℕ) (pending : List Pending) → without (suc n) pending ≡ without n (outer pending)
outer_without zero [] = refl
outer_without (suc n) [] = refl
outer_without n (p ∷ pending) = refl

one_more : (n : ℕ) (pending : List Pending) → without (n + 1) pending ≡ without n (outer pending)
one_more n pending = let e : n + 1 ≡ suc n = omega arith in ap (λ k. without k pending) e ∙ outer_without n pending

-- ---- an exception

-- the frame is left, or a handler is entered
abbrev pub entered_by : (World → Next) → ℕ → ℕ → Option Entrance → List Pending → List Frame → World → Next
entered_by further e method None pending callers w = further (left w)
entered_by further e method (Some entrance) pending callers w =
    if entrance.catches then go_on method entrance.first (value.Object e ∷ []) (Caught e ∷ pending) callers w
    else go_on method entrance.first [] (Unwinding e ∷ pending) callers w

module _ (x : Executable) (further : World → Next) (e method at : ℕ) (callers : List Frame) (w : World) (thrown : Option ClassId) (same : (token : ℕ) → matches x w token e ≡ is_of x.classes thrown token) where
  abbrev unwound : Way → List Pending → Next
  unwound way pending = entered_by further e method way.into (without way.left pending) callers w

  by_kind : (k : ClauseKind) (m : Bool) (first : ℕ) (rest : List Link) (way : Way) (pending : List Pending) → unwind x further e rest method pending callers w ≡ unwound way pending
      → unwind_at k m (go_on method first (value.Object e ∷ []) (Caught e ∷ pending) callers w) (go_on method first [] (Unwinding e ∷ pending) callers w) (unwind x further e rest method pending callers w)
      ≡ unwound (by_turn (thrown_turn k m first) way) pending
  by_kind Catch true first rest way pending known = refl
  by_kind Catch false first rest way pending known = known
  by_kind Finally m first rest way pending known = refl
  by_kind Fault m first rest way pending known = refl

  by_link : (c : Clause) (rest : List Link) (way : Way) → ((pending : List Pending) → unwind x further e rest method pending callers w ≡ unwound way pending) → (t h : Bool) (pending : List Pending)
      → unwind x further e ((if t then Protected c ∷ [] else if h then Handling c ∷ [] else []) ++ rest) method pending callers w
      ≡ unwound (by_turn (if t then protected_turn x.classes (Exception thrown) c else if h then handling_turn (Exception thrown) c else On) way) pending
  by_link c rest way known true h pending =
      by_kind c.kind (matches x w c.class e) c.handler_first rest way pending (known pending)
      ∙ ap (λ m. unwound (by_turn (thrown_turn c.kind m c.handler_first) way) pending) (same c.class)
  by_link c rest way known false true pending = known (outer pending) ∙ ap (λ p. entered_by further e method way.into p callers w) (sym (one_more way.left pending))
  by_link c rest way known false false pending = known pending

  -- the second pass in a frame
  pub unwinds : (clauses : List Clause) (pending : List Pending) → unwind x further e (chain clauses at) method pending callers w
      ≡ entered_by further e method (way_out x.classes (Exception thrown) at clauses).into (without (way_out x.classes (Exception thrown) at clauses).left pending) callers w
  unwinds [] pending = refl
  unwinds (c ∷ clauses) pending = by_link c (chain clauses at) (way_out x.classes (Exception thrown) at clauses) (unwinds clauses) (in_try c at) (in_handler c at) pending

-- ---- a leave

-- the target is reached, or a handler is entered
abbrev pub reached_by : ℕ → ℕ → Option Entrance → List Pending → List Frame → World → Next
reached_by to method None pending callers w = go_on method to [] pending callers w
reached_by to method (Some entrance) pending callers w = go_on method entrance.first [] (Leaving to ∷ pending) callers w

module _ (x : Executable) (to method at : ℕ) (callers : List Frame) (w : World) where
  abbrev gone : Way → List Pending → Next
  gone way pending = reached_by to method way.into (without way.left pending) callers w

  leaves_kind : (k : ClauseKind) (first : ℕ) (rest : List Link) (way : Way) (pending : List Pending) → go_out to rest method pending callers w ≡ gone way pending
      → leave_at k (go_on method first [] (Leaving to ∷ pending) callers w) (go_out to rest method pending callers w) ≡ gone (by_turn (leave_turn k first) way) pending
  leaves_kind Catch first rest way pending known = known
  leaves_kind Finally first rest way pending known = refl
  leaves_kind Fault first rest way pending known = known

  leaves_try : (c : Clause) (rest : List Link) (way : Way) (pending : List Pending) (s : Bool) → go_out to (left_for rest to) method pending callers w ≡ gone way pending
      → go_out to (if s then [] else Protected c ∷ left_for rest to) method pending callers w ≡ gone (by_turn (if s then Stop else leave_turn c.kind c.handler_first) way) pending
  leaves_try c rest way pending true known = refl
  leaves_try c rest way pending false known = leaves_kind c.kind c.handler_first (left_for rest to) way pending known

  leaves_handler : (c : Clause) (rest : List Link) (way : Way) (pending : List Pending) (s : Bool) → ((p : List Pending) → go_out to (left_for rest to) method p callers w ≡ gone way p)
      → go_out to (if s then [] else Handling c ∷ left_for rest to) method pending callers w ≡ gone (by_turn (if s then Stop else Out) way) pending
  leaves_handler c rest way pending true known = refl
  leaves_handler c rest way pending false known = known (outer pending) ∙ ap (λ p. reached_by to method way.into p callers w) (sym (one_more way.left pending))

  leaves_link : (c : Clause) (rest : List Link) (way : Way) → ((pending : List Pending) → go_out to (left_for rest to) method pending callers w ≡ gone way pending) → (t h : Bool) (pending : List Pending)
      → go_out to (left_for ((if t then Protected c ∷ [] else if h then Handling c ∷ [] else []) ++ rest) to) method pending callers w
      ≡ gone (by_turn (if t then protected_turn x.classes (Leave to) c else if h then handling_turn (Leave to) c else On) way) pending
  leaves_link c rest way known true h pending = leaves_try c rest way pending (in_try c to) (known pending)
  leaves_link c rest way known false true pending = leaves_handler c rest way pending (in_handler c to) known
  leaves_link c rest way known false false pending = known pending

  -- the handlers that a leave runs
  pub leaves : (clauses : List Clause) (pending : List Pending) → go_out to (left_for (chain clauses at) to) method pending callers w
      ≡ reached_by to method (way_out x.classes (Leave to) at clauses).into (without (way_out x.classes (Leave to) at clauses).left pending) callers w
  leaves [] pending = refl
  leaves (c ∷ clauses) pending = leaves_link c (chain clauses at) (way_out x.classes (Leave to) at clauses) (leaves clauses) (in_try c at) (in_handler c at) pending

-- ---- the first pass

abbrev pub is_found : Option HandlerPlace → Bool → Bool
is_found None further = further
is_found (Some place) further = true

module _ (x : Executable) (w : World) (e at : ℕ) (further : Bool) (matching : ℕ → Bool) (same : (token : ℕ) → matches x w token e ≡ matching token) where
  caught_kind : (k : ClauseKind) (m other : Bool) (place : HandlerPlace) (o : Option HandlerPlace) → other ≡ is_found o further
      → catches_in k m other ≡ is_found (if taken_by k m then Some place else o) further
  caught_kind Catch true other place o known = refl
  caught_kind Catch false other place o known = known
  caught_kind Finally m other place o known = known
  caught_kind Fault m other place o known = known

  not_around : (k : ClauseKind) → taken_by k false ≡ false
  not_around Catch = refl
  not_around Finally = refl
  not_around Fault = refl

  passed_kind : (k : ClauseKind) (other : Bool) (place : HandlerPlace) (o : Option HandlerPlace) → other ≡ is_found o further → other ≡ is_found (if taken_by k false then Some place else o) further
  passed_kind k other place o known = known ∙ ap (λ b. is_found (if b then Some place else o) further) (sym (not_around k))

  caught_link : (c : Clause) (rest : List Link) (place : HandlerPlace) (o : Option HandlerPlace) → catches x w e rest further ≡ is_found o further → (t h : Bool)
      → catches x w e ((if t then Protected c ∷ [] else if h then Handling c ∷ [] else []) ++ rest) further ≡ is_found (if taken_by c.kind (t && matching c.class) then Some place else o) further
  caught_link c rest place o known true h =
      ap (λ m. catches_in c.kind m (catches x w e rest further)) (same c.class) ∙ caught_kind c.kind (matching c.class) (catches x w e rest further) place o known
  caught_link c rest place o known false true = passed_kind c.kind (catches x w e rest further) place o known
  caught_link c rest place o known false false = passed_kind c.kind (catches x w e rest further) place o known

  -- there is a catch in the frame, or further out
  pub caught : (clauses : List Clause) (place : ℕ) → catches x w e (chain clauses at) further ≡ is_found (catch_from matching at place clauses) further
  caught [] place = refl
  caught (c ∷ clauses) place = caught_link c (chain clauses at) (place_of place c) (catch_from matching at (place + 1) clauses) (caught clauses (place + 1)) (in_try c at) (in_handler c at)
