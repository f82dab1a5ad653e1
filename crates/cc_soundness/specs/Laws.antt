-- Laws of verified modules: none is ever stuck (ECMA-335, III.1.8).
use Rattle.std.specs.Prelude.{◌≡◌, ◌≤◌, ◌≢◌, ℕ, List, length, slice_get, Some}
use Rattle.cc_base.specs.declared.running.Limits.{Limits}
use Rattle.cc_core.specs.SourceRun.{wrong}
use Rattle.cc_execution.specs.declared.executable.Executable.{Executable}
use Rattle.cc_execution.specs.declared.executable.Method.{Method}
use Rattle.cc_execution.specs.State.{State}
use Rattle.cc_execution.specs.Step.{step}
use Rattle.cc_execution.specs.Run.{start, run_of}
use Rattle.cc_module.specs.declared.module.Module.{Module}
use Rattle.cc_execution.specs.Loaded.{IsLoaded}
use Rattle.cc_verify.specs.declared.environment.Environment.{Environment}
use Rattle.cc_verify.specs.Verified.{IsVerified}
use Rattle.cc_verify.specs.Rules.{Given}
use Rattle.cc_soundness.specs.Typed.{KeepsRules}
use Rattle.cc_soundness.specs.States.{IsTypedState, GoesWell}

-- where the methods keep the rules, the start is typed
abbrev pub StartIsTyped : Type 0
StartIsTyped = (x : Executable) (e : Environment) (tables : ℕ → Given) → KeepsRules x e tables → (limits : Limits) (input : List ℕ) (arguments : List (List ℕ)) → GoesWell x tables (start x limits input arguments)

-- a typed state steps to a typed state, or the run ends
abbrev pub TypedSteps : Type 0
TypedSteps = (x : Executable) (e : Environment) (tables : ℕ → Given) → KeepsRules x e tables → (frames : ℕ) (s : State) → IsTypedState x tables s → GoesWell x tables (step x frames s)

-- the stack of a typed state is no higher than its method says
abbrev pub StackIsSmall : Type 0
StackIsSmall = (x : Executable) (e : Environment) (tables : ℕ → Given) → KeepsRules x e tables → (s : State) → IsTypedState x tables s
    → (m : Method) → slice_get x.methods s.now.method ≡ Some m → length s.now.stack ≤ m.max_stack

-- the methods of a verified module keep the rules, each with a table
abbrev pub VerifiedKeepsRules : Type 0
VerifiedKeepsRules = (m : Module) (x : Executable) → IsVerified m → IsLoaded m x → (e : Environment) × (tables : ℕ → Given) × KeepsRules x e tables

-- no run of a verified module is ever stuck
abbrev pub VerifiedIsNeverStuck : Type 0
VerifiedIsNeverStuck = (m : Module) (x : Executable) → IsVerified m → IsLoaded m x → (input : List ℕ) (arguments : List (List ℕ)) (limits : Limits) (n : ℕ) → (run_of x input arguments limits n).finish ≢ wrong

-- no run is ever stuck
abbrev pub NeverStuck : Type 0
NeverStuck = (x : Executable) (e : Environment) (tables : ℕ → Given) → KeepsRules x e tables → (input : List ℕ) (arguments : List (List ℕ)) (limits : Limits) (n : ℕ) → (run_of x input arguments limits n).finish ≢ wrong

-- a verified module is loaded as an executable
abbrev pub VerifiedIsLoaded : Type 0
VerifiedIsLoaded = (m : Module) → IsVerified m → (x : Executable) × IsLoaded m x
