-- The state of a run (ECMA-335, I.12.3.2). A frame has what control needs; the variables of all frames, the objects and what was printed are the world, which is that of the source meaning.
use Rattle.std.specs.Prelude.{ℕ, List}
use Rattle.cc_base.specs.declared.running.Ending.{Ending}
use Rattle.cc_core.specs.declared.world.Value.{Value}
use Rattle.cc_core.specs.declared.world.World.{World}

-- Why a handler runs: an exception, by its place in the heap, is on its way out; a leave is on its way to an offset; or an exception was caught.
pub data Pending : Type 0 where
  Unwinding : ℕ → Pending
  Leaving : ℕ → Pending
  Caught : ℕ → Pending

-- A frame: its method, by its place among the methods; the offset of the instruction that is next or, below the innermost frame, of the call; the evaluation stack from its top; and
-- what the handlers around the offset run for, the innermost first.
pub record Frame : Type 0 where
  pub method : ℕ
  pub at : ℕ
  pub stack : List Value
  pub pending : List Pending

-- A state: the innermost frame, those around it, the nearest first, and the world.
pub record State : Type 0 where
  pub now : Frame
  pub callers : List Frame
  pub world : World

-- What a step leads to. A run is stuck where an instruction has no meaning, which no verified module comes to.
pub data Next : Type 0 where
  Goes : State → Next
  Ends : Ending → World → Next
  Stuck : Next

-- a step, and then more where the run goes on
abbrev pub then_go : Next → (State → Next) → Next
then_go (Goes s) go = go s
then_go (Ends ending w) go = Ends ending w
then_go Stuck go = Stuck
