-- What the module of a program does, against what the program means (ECMA-335, I.12.3 and III.1.7).
--   budget work              how many instructions stand for so much counted work
--   Same means seen          a run of the module has printed, told and ended as a run of the program
--   Behaves program x ..     the module does what the program means, for one input and within one set of limits
--   ProgramsBehave           so does each module in which the code of a program's functions stands
use Rattle.std.specs.Prelude.{◌≡◌, ◌≢◌, ℕ, ◌+◌, ◌*◌, ◌≤◌, List, [], ◌∷◌, Some, slice_get}
use Rattle.cc_base.specs.declared.identifiers.MethodId.{MethodId}
use Rattle.cc_base.specs.declared.running.Ending.{Ending}
use Rattle.cc_base.specs.declared.running.Limits.{Limits}
use Rattle.cc_cil.specs.declared.instruction.Instruction.TheVariants as the
use Rattle.cc_core.specs.declared.tree.Dispatch.TheVariants.{Direct}
use Rattle.cc_core.specs.declared.types.ClassInfo.{ClassInfo}
use Rattle.cc_core.specs.declared.world.Value.{Value}
use Rattle.cc_core.specs.SourceRun.{Meaning, ended, going, wrong}
use Rattle.cc_core.specs.Typed.{IsCallable}
use Rattle.cc_core.specs.Types as type
use Rattle.cc_code.specs.declared.tokens.Tokens.{Tokens}
use Rattle.cc_code.specs.Terms.{call}
use Rattle.cc_execution.specs.declared.executable.Executable.{Executable}
use Rattle.cc_execution.specs.declared.executable.Method.{Method}
use Rattle.cc_execution.specs.declared.operation.FundamentalType.TheVariants.{I4}
use Rattle.cc_execution.specs.Run.{Seen}
use Rattle.cc_execution.specs.Run as machine
use Rattle.cc_execution.specs.State.{Frame}
use Rattle.cc_region.specs.declared.tree.RegionParts.{RegionParts}
use Rattle.cc_region.specs.RegionRun as region
use Rattle.cc_simulation.specs.Compiled.{site_of, CompiledProgram}
use Rattle.cc_simulation.specs.Sites.{Setting, HasAt}

-- at most 64 for each expression, statement, call, turn and label that is counted, and 64 more
abbrev pub budget : ℕ → ℕ
budget work = 64 * (work + 1)

pub record Same (means : Meaning) (seen : Seen) : Type 0 where
  pub output : means.output ≡ seen.output
  pub events : means.events ≡ seen.events
  pub finish : means.finish ≡ seen.finish

abbrev pub meant : RegionParts → List ℕ → List (List ℕ) → Limits → ℕ → Meaning
meant program input arguments limits n = region.run_of program.classes program.functions program.main input arguments limits n

-- The program means `meant` within n turns of each loop; the module has done `seen` after m instructions.
pub record Behaves (program : RegionParts) (x : Executable) (input : List ℕ) (arguments : List (List ℕ)) (limits : Limits) : Type 0 where
  -- where the program ends, the module ends alike, within the instructions for its work
  pub ends : (n : ℕ) (e : Ending) → (meant program input arguments limits n).finish ≡ ended e
      → (m : ℕ) × (m ≤ budget (meant program input arguments limits n).work) × Same (meant program input arguments limits n) (machine.run_of x input arguments limits m)
  -- where it goes on, the module has come as far and goes on, after at least one instruction for each turn
  pub goes_on : (n : ℕ) → (meant program input arguments limits n).finish ≡ going
      → (m : ℕ) × (n ≤ m) × (m ≤ budget (meant program input arguments limits n).work) × Same (meant program input arguments limits n) (machine.run_of x input arguments limits m)
  -- where the module ends, the program ends alike within some number of turns
  pub ends_only : (m : ℕ) (e : Ending) → (machine.run_of x input arguments limits m).finish ≡ ended e
      → (n : ℕ) × Same (meant program input arguments limits n) (machine.run_of x input arguments limits m)
  -- no instruction is without a meaning
  pub never_stuck : (m : ℕ) → (machine.run_of x input arguments limits m).finish ≢ wrong
  -- and the program never comes to a form that has no meaning
  pub never_wrong : (n : ℕ) → (meant program input arguments limits n).finish ≢ wrong

abbrev pub setting : Executable → List ClassInfo → ℕ → ℕ → Setting
setting x classes frames turns = record { x = x; classes = classes; frames = frames; turns = turns }

-- the entry calls `main` and returns its result
pub record CompiledEntry (set : Setting) (tokens : Tokens) (main : MethodId) : Type 0 where
  pub method : Method
  pub is : slice_get set.x.methods set.x.entry ≡ Some method
  pub parameters : method.parameters ≡ []
  pub locals : method.locals ≡ []
  pub result : method.result ≡ Some I4
  pub code : (callers : List Frame) (outer : List (List Value)) → HasAt (site_of set set.x.entry method [] callers outer) 0 (call tokens Direct main.0 ∷ the.Return ∷ [])

-- the functions of a program and its entry stand in a module, with these tokens
pub record IsCompiled (program : RegionParts) (x : Executable) (tokens : Tokens) : Type 0 where
  pub functions : (frames turns : ℕ) → CompiledProgram (setting x program.classes frames turns) program.functions tokens
  pub entry : (frames turns : ℕ) → CompiledEntry (setting x program.classes frames turns) tokens program.main
  pub main : IsCallable program.classes program.main [] type.I32

abbrev pub ProgramsBehave : Type 0
ProgramsBehave = (program : RegionParts) (x : Executable) (tokens : Tokens) → IsCompiled program x tokens → (input : List ℕ) (arguments : List (List ℕ)) (limits : Limits) → Behaves program x input arguments limits
