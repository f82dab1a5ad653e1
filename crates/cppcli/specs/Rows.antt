-- What each answer tells a caller, in a row for each.
use Rattle.std.specs.Prelude.{◌≡◌, ◌⊎◌, ◌≤◌, ◌<◌, ◌+◌, ℕ, Bool, List, length, Some, None, is_some, true, false}
use Rattle.cc_base.specs.Outside.{Rose, Holds, HoldsMore, Lacks, Gains}
use Rattle.cc_base.specs.declared.kind.Kind.{Kind}
use Rattle.cc_base.specs.declared.text.Span.{Span}
use Rattle.cc_base.specs.declared.running.Ending.{Ending}
use Rattle.cc_core.specs.StraightSource.{Source}
use Rattle.cc_module.specs.declared.module.Module.{Module}
use Rattle.cc_image.specs.declared.fault.ImageFault.{ImageFault}
use Rattle.cc_listing.specs.Listing.{ListsModule}
use Rattle.cc_emit.specs.Program.{image_limit}
use Rattle.cc_core.specs.StraightMeaning.{run_of}
use Rattle.cc_straight.specs.Executing.{run_length}
use Rattle.cc_straight.specs.Reading.{execution, Reads, Refuses}
use Rattle.cc_core.specs.declared.tree.ProgramParts.{ProgramParts}
use Rattle.cc_front.specs.Reading as front
use Rattle.cc_front.specs.Reading.{Types}
use Rattle.cc_mean.specs.Ends.{end_of}
use Rattle.cc_verify.specs.Verified.{FirstFault, IsVerified}
use Rattle.cc_verify.specs.declared.fault.VerifyFault.{VerifyFault}
use Rattle.cc_words.specs.Words.{CommandLine, command_line, first_command}
use Rattle.cc_words.specs.declared.command.Command.{Command}
use Rattle.cc_words.specs.declared.command.Command.TheVariants.{Run, Check, Build, Dump, Verify, Mean}
use Rattle.cppcli.specs.Answers.{FilesRun, SinksRun, IsModuleOf, IsNoImage, arguments_of, image_name, longest_run, meaning_of, source_limit, program_limits, status_of}
use Rattle.cppcli.specs.declared.status.Status.{Status}
use Rattle.cppcli.specs.declared.status.Status.TheVariants.{Done, Usage, Absent, ReadFault, WriteFault, TooLong, Refused, NotImage, Unverified, StepLimit, Going, Memory}

-- the words are a command of which P holds
abbrev pub ForCommand : List (List ℕ) → (CommandLine → Type 0) → Type 0
ForCommand words P = (line : CommandLine) × (command_line words ≡ Some line) × P line

-- Usage comes exactly where the words are no command, save that its note may not be written, or memory run out where the first word is a command
pub record UsageRow (words : List (List ℕ)) (answer : Status) : Type 0 where
  pub only : answer ≡ Usage → command_line words ≡ None
  pub always : command_line words ≡ None → (answer ≡ Usage) ⊎ ((answer ≡ WriteFault) ⊎ ((answer ≡ Memory) × (is_some (first_command words) ≡ true)))

abbrev pub AbsentRow : List (List ℕ) → FilesRun → Status → Type 0
AbsentRow words run answer = answer ≡ Absent → ForCommand words (λ line.
    Lacks run.before line.file × Rose (run.before.absences line.file) (run.after.absences line.file))

abbrev pub ReadFaultRow : List (List ℕ) → FilesRun → Status → Type 0
ReadFaultRow words run answer = answer ≡ ReadFault → ForCommand words (λ line.
    Rose (run.before.load_faults line.file) (run.after.load_faults line.file) × (¬ run.quiet))

-- a store of the name that the command stores failed
abbrev pub StoreFails : FilesRun → CommandLine → Type 0
StoreFails run line = (line.command ≡ Build) × Rose (run.before.store_faults (image_name line.file)) (run.after.store_faults (image_name line.file)) × (¬ run.quiet)

abbrev pub WriteFaultRow : List (List ℕ) → FilesRun → SinksRun → Status → Type 0
WriteFaultRow words run sinks answer = answer ≡ WriteFault →
    (Rose sinks.output.faults sinks.output'.faults ⊎ Rose sinks.notes.faults sinks.notes'.faults) ⊎ ForCommand words (StoreFails run)

-- the longest file that a command loads, in bytes
abbrev pub limit_of : Command → ℕ
limit_of Run = source_limit
limit_of Check = source_limit
limit_of Build = source_limit
limit_of Dump = image_limit
limit_of Verify = image_limit
limit_of Mean = source_limit

abbrev pub TooLongRow : List (List ℕ) → FilesRun → Status → Type 0
TooLongRow words run answer = answer ≡ TooLong → ForCommand words (λ line.
    (front : List ℕ) × HoldsMore run.before line.file front × (length front ≡ limit_of line.command + 1))

-- the rules refuse these bytes so, when the command compiles or types them
abbrev pub RefusesFor : Command → List ℕ → Kind → Span → Type 0
RefusesFor Run bytes kind span = Refuses execution bytes kind span
RefusesFor Check bytes kind span = front.Refuses bytes kind span
RefusesFor Build bytes kind span = Refuses execution bytes kind span
RefusesFor Dump bytes kind span = ⊥
RefusesFor Verify bytes kind span = ⊥
RefusesFor Mean bytes kind span = front.Refuses bytes kind span

-- these files hold bytes under the command's name that the rules refuse so
abbrev pub RefusedFrom : FilesRun → CommandLine → Kind → Span → Type 0
RefusedFrom run line kind span = (bytes : List ℕ) × Holds run.before line.file bytes × (length bytes ≤ source_limit) × RefusesFor line.command bytes kind span

abbrev pub RefusedRow : List (List ℕ) → FilesRun → Status → Type 0
RefusedRow words run answer = (kind : Kind) (span : Span) → answer ≡ Refused kind span → ForCommand words (λ line. RefusedFrom run line kind span)

-- the commands that read an image
abbrev pub reads_image : Command → Bool
reads_image Run = false
reads_image Check = false
reads_image Build = false
reads_image Dump = true
reads_image Verify = true
reads_image Mean = false

-- these files hold bytes under the name that are no image, as this check shows first
abbrev pub NoImageFrom : FilesRun → List ℕ → ImageFault → Type 0
NoImageFrom run file fault = (bytes : List ℕ) × Holds run.before file bytes × (length bytes ≤ image_limit) × IsNoImage bytes fault

abbrev pub NotImageRow : List (List ℕ) → FilesRun → Status → Type 0
NotImageRow words run answer = (fault : ImageFault) → answer ≡ NotImage fault → ForCommand words (λ line. (reads_image line.command ≡ true) × NoImageFrom run line.file fault)

-- these files hold bytes under the name that are an image of a module
abbrev pub ModuleFrom : FilesRun → List ℕ → Module → Type 0
ModuleFrom run file m = (bytes : List ℕ) × Holds run.before file bytes × (length bytes ≤ image_limit) × IsModuleOf bytes m

-- it is that of a module that breaks this rule first
abbrev pub UnverifiedRow : List (List ℕ) → FilesRun → Status → Type 0
UnverifiedRow words run answer = (fault : VerifyFault) → answer ≡ Unverified fault → ForCommand words (λ line.
    (line.command ≡ Verify) × (m : Module) × ModuleFrom run line.file m × FirstFault m (Some fault))

-- these files hold bytes under the name that spell a source
abbrev pub AcceptedFrom : FilesRun → List ℕ → Source → Type 0
AcceptedFrom run file source = (bytes : List ℕ) × Holds run.before file bytes × (length bytes ≤ source_limit) × Reads bytes source

-- the source's run ends so within the steps, and prints these bytes
abbrev pub Ends : CommandLine → Source → Ending → List ℕ → Type 0
Ends line source ending printed =
    (run_length source (arguments_of line) program_limits ≤ line.bound)
    × ((run_of source (arguments_of line) program_limits).ending ≡ ending) × (printed ≡ (run_of source (arguments_of line) program_limits).output)

-- these files hold bytes under the name that are typed as the program
abbrev pub TypedFrom : FilesRun → List ℕ → ProgramParts → Type 0
TypedFrom run file program = (bytes : List ℕ) × Holds run.before file bytes × (length bytes ≤ source_limit) × Types bytes program

-- the program of the command's file ends so and prints these bytes, when it is compiled and executed, or by its meaning
abbrev pub EndedFrom : Command → CommandLine → FilesRun → Ending → List ℕ → Type 0
EndedFrom Run line run ending printed = (source : Source) × AcceptedFrom run line.file source × Ends line source ending printed
EndedFrom Check line run ending printed = ⊥
EndedFrom Build line run ending printed = ⊥
EndedFrom Dump line run ending printed = ⊥
EndedFrom Verify line run ending printed = ⊥
EndedFrom Mean line run ending printed =
    (program : ProgramParts) × TypedFrom run line.file program
    × (end_of (meaning_of program (arguments_of line) line.bound).finish ≡ Some ending) × (printed ≡ (meaning_of program (arguments_of line) line.bound).output)

-- a program that returned a number, was aborted or met a limit is that of the file, which ends so, and what it prints is written
abbrev pub EndedRow : List (List ℕ) → FilesRun → SinksRun → Status → Type 0
EndedRow words run sinks answer = (ending : Ending) → answer ≡ status_of (Some ending) → ForCommand words (λ line.
    (printed : List ℕ) × EndedFrom line.command line run ending printed × Gains sinks.output sinks.output' printed)

-- a program whose meaning goes on is that of the file: its meaning has no end within the turns, and what it prints within them is written
abbrev pub GoingRow : List (List ℕ) → FilesRun → SinksRun → Status → Type 0
GoingRow words run sinks answer = answer ≡ Going → ForCommand words (λ line.
    (line.command ≡ Mean) × (program : ProgramParts) × TypedFrom run line.file program
    × (end_of (meaning_of program (arguments_of line) line.bound).finish ≡ None) × Gains sinks.output sinks.output' (meaning_of program (arguments_of line) line.bound).output)

-- a program that has not ended has a run of more instructions, and none has more than the longest
abbrev pub StepLimitRow : List (List ℕ) → FilesRun → Status → Type 0
StepLimitRow words run answer = answer ≡ StepLimit → ForCommand words (λ line.
    (line.command ≡ Run) × (source : Source) × AcceptedFrom run line.file source × (line.bound < run_length source (arguments_of line) program_limits) × (line.bound < longest_run))

-- it is that of a module, whose listing the bytes are
abbrev pub ListedFrom : FilesRun → List ℕ → List ℕ → Type 0
ListedFrom run file text = (m : Module) × ModuleFrom run file m × ListsModule m text

-- the file of a command that was done: a source, an image whose listing was written, or that of a verified module; an execution ends otherwise
abbrev pub DoneFrom : Command → FilesRun → SinksRun → List ℕ → Type 0
DoneFrom Run run sinks file = ⊥
DoneFrom Check run sinks file = (program : ProgramParts) × TypedFrom run file program
DoneFrom Build run sinks file = (source : Source) × AcceptedFrom run file source
DoneFrom Dump run sinks file = (text : List ℕ) × ListedFrom run file text × Gains sinks.output sinks.output' text
DoneFrom Verify run sinks file = (m : Module) × ModuleFrom run file m × IsVerified m
DoneFrom Mean run sinks file = ⊥

abbrev pub DoneRow : List (List ℕ) → FilesRun → SinksRun → Status → Type 0
DoneRow words run sinks answer = answer ≡ Done → ForCommand words (λ line. DoneFrom line.command run sinks line.file)

-- Memory is never the answer where the first word is no command
abbrev pub MemoryRow : List (List ℕ) → Status → Type 0
MemoryRow words answer = answer ≡ Memory → is_some (first_command words) ≡ true

-- The table of answers.
pub record AnswerTable (words : List (List ℕ)) (run : FilesRun) (sinks : SinksRun) (answer : Status) : Type 0 where
  pub usage : UsageRow words answer
  pub absent : AbsentRow words run answer
  pub read_fault : ReadFaultRow words run answer
  pub write_fault : WriteFaultRow words run sinks answer
  pub too_long : TooLongRow words run answer
  pub refused : RefusedRow words run answer
  pub not_image : NotImageRow words run answer
  pub unverified : UnverifiedRow words run answer
  pub ended : EndedRow words run sinks answer
  pub step_limit : StepLimitRow words run answer
  pub going : GoingRow words run sinks answer
  pub done : DoneRow words run sinks answer
  pub memory : MemoryRow words answer
