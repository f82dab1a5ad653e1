-- What the frames of the machine stand for: all of them lie one after another in one vector of cells, each with its variables and then its evaluation stack.
use Rattle.std.specs.Prelude.{ℕ, ◌≤◌, List, [], ◌∷◌, length, map, reverse, slice_range, slice_set}
use Rattle.cc_core.specs.declared.world.Value.{Value}
use Rattle.cc_machine_next.specs.declared.cell.Cell.{Cell}
use Rattle.cc_machine_next.specs.declared.frames.Saved.{Saved}
use Rattle.cc_machine_next.specs.declared.frames.FrameStack.TheInside.{Inside}
use Rattle.cc_machine_next.specs.Cells.{value_of}

-- A frame: its method and the offset that it is at, its variables, its evaluation stack from its top, and where that begins among the cells.
pub record HeldFrame : Type 0 where
  pub method : ℕ
  pub at : ℕ
  pub variables : List Value
  pub stack : List Value
  pub floor : ℕ

-- The innermost frame, those around it, the nearest first, and how many cells there are in all.
pub record Frames : Type 0 where
  pub now : HeldFrame
  pub below : List HeldFrame
  pub size : ℕ

-- the values of cells from one place up to another
abbrev pub values : List Cell → ℕ → ℕ → List Value
values cells from to = map value_of (slice_range cells from to)

abbrev pub held : List Cell → ℕ → ℕ → ℕ → ℕ → ℕ → HeldFrame
held cells method at base floor top = record { method = method; at = at; variables = values cells base floor; stack = reverse (values cells floor top); floor = floor }

-- the frames that wait, the nearest first, up to where the cells of the innermost one begin
abbrev pub below_of : List Cell → List Saved → ℕ → List HeldFrame
below_of cells [] end = []
below_of cells (s ∷ saved) end = held cells s.method s.at s.base s.floor end ∷ below_of cells saved s.base

abbrev pub frames_from : List Cell → List Saved → ℕ → ℕ → ℕ → ℕ → ℕ → Frames
frames_from cells saved method at base floor top = record { now = held cells method at base floor top; below = below_of cells saved base; size = length cells }

abbrev pub frames_of : Inside → Frames
frames_of m = frames_from m.cells.items (reverse m.saved.items) m.method m.at m.base m.floor m.top

-- the frames that wait lie one below the other
abbrev pub AreStacked : List Saved → ℕ → Type 0
AreStacked [] end = Unit {0}
AreStacked (s ∷ saved) end = (s.base ≤ s.floor) × (s.floor ≤ end) × AreStacked saved s.base

pub record IsLaidOut (m : Inside) : Type 0 where
  pub variables : m.base ≤ m.floor
  pub stack : m.floor ≤ m.top
  pub within : m.top ≤ length m.cells.items
  pub waiting : AreStacked (reverse m.saved.items) m.base

-- the first frame of a run
abbrev pub first : ℕ → List Value → ℕ → ℕ → Frames
first method variables floor size = record {
  now = record { method = method; at = 0; variables = variables; stack = []; floor = floor };
  below = [];
  size = size;
}

-- ---- changes

abbrev pub with_stack : List Value → Frames → Frames
with_stack stack f = record f { now = record f.now { stack = stack } }

abbrev pub with_variable : ℕ → Value → Frames → Frames
with_variable place v f = record f { now = record f.now { variables = slice_set f.now.variables place v } }

abbrev pub gone_to : ℕ → Frames → Frames
gone_to at f = record f { now = record f.now { at = at } }

-- a value more on the stack
abbrev pub pushed : Value → Frames → Frames
pushed v f = with_stack (v ∷ f.now.stack) f

-- a frame of a method is entered: the one before it waits with what is left on its stack
abbrev pub entered : ℕ → List Value → List Value → ℕ → ℕ → Frames → Frames
entered method variables rest floor size f = record {
  now = record { method = method; at = 0; variables = variables; stack = []; floor = floor };
  below = record f.now { stack = rest } ∷ f.below;
  size = size;
}

-- the innermost frame is dropped
abbrev pub dropped : HeldFrame → List HeldFrame → Frames → Frames
dropped now below f = record { now = now; below = below; size = f.size }
