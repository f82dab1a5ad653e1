-- Laws of runs.
use Rattle.std.specs.Prelude.{◌≡◌, ℕ, ◌+◌, Some, codes, length}
use Rattle.cc_core.specs.Numbers.{DivideByZero, Arithmetic}
use Rattle.cc_core.specs.declared.world.World.{World}
use Rattle.cc_core.specs.Laws.{Front}
use Rattle.cc_module.specs.declared.module.Module.{Module}
use Rattle.cc_execution.specs.declared.executable.Executable.{Executable}
use Rattle.cc_execution.specs.Library.{class_names, class_bases, class_named, class_number, CONSOLE, NULL_REFERENCE, LIBRARY_CLASSES}
use Rattle.cc_execution.specs.State.{State, Next, Goes, Ends, Stuck, then_go}
use Rattle.cc_execution.specs.Loaded.{IsLoaded}
use Rattle.cc_execution.specs.Run.{runs}

-- a run of a steps and then of b is one of a + b
abbrev pub RunsInPieces : Type 0
RunsInPieces = (x : Executable) (frames a b : ℕ) (s : State) → runs x frames (a + b) s ≡ then_go (runs x frames a s) (runs x frames b)

-- what was printed and told by then stands at the front of what was later
pub record Grows (first last : World) : Type 0 where
  pub output : Front first.output last.output
  pub events : Front first.events last.events

abbrev pub GrowsTo : World → Next → Type 0
GrowsTo w (Goes s) = Grows w s.world
GrowsTo w (Ends ending last) = Grows w last
GrowsTo w Stuck = Unit {0}

abbrev pub OutputGrows : Type 0
OutputGrows = (x : Executable) (frames n : ℕ) (s : State) → GrowsTo s.world (runs x frames n s)

-- a module is loaded as one executable
abbrev pub OneExecutable : Type 0
OneExecutable = (m : Module) (x y : Executable) → IsLoaded m x → IsLoaded m y → x ≡ y

-- the numbers that definitions give to classes of the library are those of their names
pub record LibraryClasses : Type 0 where
  pub names : length class_names ≡ LIBRARY_CLASSES
  pub bases : length class_bases ≡ LIBRARY_CLASSES
  pub console : class_named (codes "System") (codes "Console") ≡ Some (class_number CONSOLE)
  pub arithmetic : class_named (codes "System") (codes "ArithmeticException") ≡ Some Arithmetic
  pub division : class_named (codes "System") (codes "DivideByZeroException") ≡ Some DivideByZero
  pub null : class_named (codes "System") (codes "NullReferenceException") ≡ Some NULL_REFERENCE
