-- How a stretch of a run of the machine stands for a part of what a program means (ECMA-335, I.12.3).
--   Comes .. from to              from the first, the machine comes to the second; either may be an end
--   Shows .. n .. from seen       from there, after at least n steps, it has printed and told this, and stands so
--   Stands .. from ends good ran  the machine does what a part of the meaning did: it comes to where the part's value leads, or shows how the run stands
-- Each takes at most b steps, and 64 for each one that was counted between the two counts.
use Rattle.std.specs.Prelude.{◌≡◌, ◌≢◌, ℕ, ◌+◌, ◌*◌, ◌≤◌, List, Ok, Err}
use Rattle.cc_core.specs.declared.state.State.{State}
use Rattle.cc_core.specs.declared.state.Stop.{Stop}
use Rattle.cc_core.specs.declared.state.Stop.TheVariants.{Throws, HeapLimit, DepthLimit, Going, Wrong}
use Rattle.cc_core.specs.declared.types.ClassInfo.{ClassInfo}
use Rattle.cc_core.specs.declared.world.Value.{Value}
use Rattle.cc_core.specs.declared.world.World.{World}
use Rattle.cc_core.specs.Run.{Ran}
use Rattle.cc_core.specs.SourceRun.{Finish, wrong, finish_of}
use Rattle.cc_execution.specs.declared.executable.Executable.{Executable}
use Rattle.cc_execution.specs.Run.{runs, Seen, seen, seen_in}
use Rattle.cc_execution.specs.State.{Next, then_go}

pub record Comes (x : Executable) (frames b before after : ℕ) (from to : Next) : Type 0 where
  pub by : (k : ℕ) → (j : ℕ) × (k ≤ j) × (j + 64 * before ≤ k + b + 64 * after) × (then_go from (runs x frames j) ≡ then_go to (runs x frames k))

pub record Shows (x : Executable) (frames n b before after : ℕ) (from : Next) (to : Seen) : Type 0 where
  pub steps : ℕ
  pub least : n ≤ steps
  pub most : steps + 64 * before ≤ b + 64 * after
  pub same : seen (then_go from (runs x frames steps)) ≡ to

-- a run that goes on has made at least so many steps
abbrev pub least : ℕ → Stop → ℕ
least n (Throws at) = 0
least n HeapLimit = 0
least n DepthLimit = 0
least n Going = n
least n Wrong = 0

-- how a run stands that a part stopped
abbrev pub stopped : List ClassInfo → Stop → State → Finish
stopped classes e s = let ran : Ran Value = (Err e, s) in finish_of classes ran

-- it stands in a way that has a meaning
abbrev pub IsMeant : List ClassInfo → Stop → State → Type 0
IsMeant classes e s = stopped classes e s ≢ wrong

abbrev pub Got : {A : Type 0} → Executable → List ClassInfo → ℕ → ℕ → ℕ → Next → (A → World → Next) → (A → World → Type 0) → ℕ → Ran A → Type 0
Got x classes frames n b from ends good before (Ok a, s) = good a s.world × Comes x frames b before s.work from (ends a s.world)
Got x classes frames n b from ends good before (Err e, s) = IsMeant classes e s × Shows x frames (least n e) b before s.work from (seen_in s.world (stopped classes e s))

-- (a record, so that what it speaks of is found from it)
pub record Stands {A : Type 0} (x : Executable) (classes : List ClassInfo) (frames n b : ℕ) (from : Next) (ends : A → World → Next) (good : A → World → Type 0) (before : ℕ) (ran : Ran A) : Type 0 where
  pub got : Got x classes frames n b from ends good before ran
