-- Which modules are verified (ECMA-335, II.3, III.1.7 and III.1.8), and the first rule that another breaks: the rules on rows, then those on code by method.
--   FirstFault m v     the first rule that a module breaks, if any
--   IsVerified m       it breaks none
use Rattle.std.specs.Prelude.{◌≡◌, ◌+◌, ℕ, List, [], ◌∷◌, Option, Some, None, Result, Ok, Err, if◌then◌else◌, ◌==◌}
use Rattle.cc_cil.specs.declared.body.Body.{Body}
use Rattle.cc_module.specs.declared.module.Module.{Module}
use Rattle.cc_module.specs.declared.rows.MethodDefRow.{MethodDefRow}
use Rattle.cc_module.specs.Methods.{body_of}
use Rattle.cc_verify.specs.declared.stack_type.StackType.{StackType}
use Rattle.cc_verify.specs.declared.environment.MethodType.{MethodType}
use Rattle.cc_verify.specs.declared.environment.Environment.{Environment}
use Rattle.cc_verify.specs.declared.environment.Frame.{Frame}
use Rattle.cc_verify.specs.declared.places.Broken.{Broken}
use Rattle.cc_verify.specs.declared.fault.VerifyFault.{VerifyFault}
use Rattle.cc_verify.specs.declared.fault.VerifyFault.TheVariants as fault
use Rattle.cc_verify.specs.declared.fault.VerifyRefusal.{VerifyRefusal}
use Rattle.cc_verify.specs.Transitions.{row_of, at_row}
use Rattle.cc_verify.specs.Rules.{MethodVerdict}
use Rattle.cc_verify.specs.declared.readings.Readings.{Readings}
use Rattle.cc_verify.specs.Types.{AreReadings, environment_of}
use Rattle.cc_verify.specs.ClassRules.{body_at, first_class_fault}

-- the types of the variables that a body's token names, none for 0
abbrev pub locals_named : Environment → ℕ → Option (List StackType)
locals_named e token = if token == 0 then None else at_row e.locals (row_of token)

abbrev pub some_locals : Option (List StackType) → List StackType
some_locals None = []
some_locals (Some types) = types

-- a method's variables: its parameters, and those that its body names
abbrev pub frame_of : Environment → MethodType → Body → Frame
frame_of e t b = record { arguments = t.parameters; locals = some_locals (locals_named e b.locals); result = t.result }

-- what is found in a method's body, where it has one
abbrev pub BodyVerdict : Environment → MethodType → Option Body → Option Broken → Type 0
BodyVerdict e t None verdict = verdict ≡ None
BodyVerdict e t (Some body) verdict = MethodVerdict e (frame_of e t body) body verdict

-- The methods from a row on: the first that breaks a rule.
pub data CodesVerdict (m : Module) (e : Environment) : ℕ → List MethodType → Option (ℕ × Broken) → Type 0 where
  all : {row : ℕ} → CodesVerdict m e row [] None
  broken : {row : ℕ} {t : MethodType} {methods : List MethodType} {b : Broken} → BodyVerdict e t (body_at m (body_of m row)) (Some b) → CodesVerdict m e row (t ∷ methods) (Some (row, b))
  kept : {row : ℕ} {t : MethodType} {methods : List MethodType} {verdict : Option (ℕ × Broken)} → BodyVerdict e t (body_at m (body_of m row)) None
      → CodesVerdict m e (row + 1) methods verdict → CodesVerdict m e row (t ∷ methods) verdict

-- ---- the module

pub data Faults (m : Module) (r : Readings) : Option VerifyFault → Type 0 where
  of_class : {at : ℕ × ℕ} → first_class_fault m r ≡ Some at → Faults m r (Some (fault.BadClass at.0 at.1))
  of_fault : {row : ℕ} {b : Broken} → first_class_fault m r ≡ None → CodesVerdict m (environment_of m r) 1 (environment_of m r).methods (Some (row, b)) → Faults m r (Some (fault.BadCode row b.at b.rule))
  of_none : first_class_fault m r ≡ None → CodesVerdict m (environment_of m r) 1 (environment_of m r).methods None → Faults m r None

abbrev pub FirstFault : Module → Option VerifyFault → Type 0
FirstFault m verdict = (r : Readings) × AreReadings m r × Faults m r verdict

abbrev pub IsVerified : Module → Type 0
IsVerified m = FirstFault m None

-- what makes the first fault the one: no module has two
abbrev pub OneFault : Type 0
OneFault = (m : Module) (v w : Option VerifyFault) → FirstFault m v → FirstFault m w → v ≡ w

-- ---- what a verifier answers

-- a fault is the first, but for want of memory
abbrev pub IsFirstFault : Module → VerifyFault → Type 0
IsFirstFault m fault.Memory = Unit {0}
IsFirstFault m (fault.BadClass rule row) = FirstFault m (Some (fault.BadClass rule row))
IsFirstFault m (fault.BadCode row at rule) = FirstFault m (Some (fault.BadCode row at rule))

-- the module itself, where it is verified, or with its first fault
abbrev pub IsAnswer : Module → Result Module VerifyRefusal → Type 0
IsAnswer m (Ok verified) = (verified ≡ m) × IsVerified m
IsAnswer m (Err refusal) = (refusal.«module» ≡ m) × IsFirstFault m refusal.fault
