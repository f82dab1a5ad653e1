-- Laws of what typing makes.
use Rattle.std.specs.Prelude.{◌≡◌, ◌≤◌, ◌^◌, Bool, true, false, List, length, Ok, Err, ⊤}
use Rattle.cc_base.specs.declared.kind.Kind.{Kind}
use Rattle.cc_base.specs.declared.kind.Kind.TheVariants as kind
use Rattle.cc_tree.specs.declared.unit.Unit.{Unit}
use Rattle.cc_core.specs.declared.tree.ProgramParts.{ProgramParts}
use Rattle.cc_core.specs.declared.types.ClassInfo.{ClassInfo}
use Rattle.cc_core.specs.declared.fault.ClassesFault.{ClassesFault}
use Rattle.cc_core.specs.declared.fault.ClassesFault.TheVariants as fault
use Rattle.cc_core.specs.ClassesFaults.{IsBroken}
use Rattle.cc_core.specs.Typed.{IsProgram}
use Rattle.cc_operations.specs.declared.judged.Refusal.{Refusal}
use Rattle.cc_operations.specs.Choosing.{Pick, Chooses}
use Rattle.cc_typing_laws.specs.Contents.{Placed, functions}
use Rattle.cc_typing_laws.specs.Programs.{library_classes, classes_with, typed_program, program_bare}

-- calls among functions of fundamental types always have a choice
abbrev pub SomeChoice : Type 0
SomeChoice = (classes : List ClassInfo) → (pick : Pick) × Chooses classes pick

-- and whatever choices are those of the language lead to one answer
abbrev pub OneAnswer : Type 0
OneAnswer = (one other : Pick) (unit : Unit) → Chooses (classes_with library_classes (functions unit)) one → Chooses (classes_with library_classes (functions unit)) other → typed_program one unit ≡ typed_program other unit

-- what typing makes of a source, where calls are chosen as in the language, is a program
abbrev pub TypedIsProgram : Type 0
TypedIsProgram = (pick : Pick) (unit : Unit) (parts : ProgramParts) → Chooses (classes_with library_classes (functions unit)) pick → typed_program pick unit ≡ Ok (program_bare parts) → IsProgram parts

-- so what it makes by whatever choice is one of the language is a program, since there is one
abbrev pub AnswerIsProgram : Type 0
AnswerIsProgram = (unit : Unit) (parts : ProgramParts) → ((pick : Pick) → Chooses (classes_with library_classes (functions unit)) pick → typed_program pick unit ≡ Ok (program_bare parts)) → IsProgram parts

-- the kinds by which typing refuses: 50, 51, 52, 53, 55, 56, 62 and 63
abbrev pub is_typing_kind : Kind → Bool
is_typing_kind kind.NoConversion = true
is_typing_kind kind.NoOverload = true
is_typing_kind kind.AmbiguousCall = true
is_typing_kind kind.NotAssignable = true
is_typing_kind kind.BadBreak = true
is_typing_kind kind.MissingReturn = true
is_typing_kind kind.TooManyArguments = true
is_typing_kind kind.UnknownMember = true
is_typing_kind _ = false

-- typing refuses by no other kind, by whatever choices
abbrev pub RefusedByKinds : Type 0
RefusedByKinds = (pick : Pick) (unit : Unit) (refusal : Refusal) → typed_program pick unit ≡ Err refusal → is_typing_kind refusal.kind ≡ true

-- a fault that a source may have by its size alone, or by want of memory
abbrev pub IsWant : List Placed → ClassesFault → Type 0
IsWant placed fault.TooManyClasses = ⊥
IsWant placed fault.TooManyFields = ⊥
IsWant placed fault.TooManyMethods = 2 ^ 32 ≤ length placed
IsWant placed (fault.NamesNoClass class) = ⊥
IsWant placed (fault.DerivesFromItself class) = ⊥
IsWant placed (fault.HoldsItself class) = ⊥
IsWant placed fault.Memory = ⊤

-- The classes of a source are those of a program, unless it has 2^32 functions or more.
abbrev pub ClassesAreSound : Type 0
ClassesAreSound = (placed : List Placed) (found : ClassesFault) → IsBroken (classes_with library_classes placed) found → IsWant placed found
