-- What a call of the program answers and writes, and why.
use Rattle.std.specs.Prelude.{◌≡◌, ◌≢◌, ◌⊎◌, ◌≤◌, ◌<◌, ◌+◌, ℕ, List, [], ◌++◌, codes, length, map, take, Option, Some, None, is_some, true, IsTrue}
use Rattle.std.specs.Char.Escape.{encode_utf16}
use Rattle.std.specs.List.{flat_map}
use Rattle.std.specs.Str.{chars}
use Rattle.cc_base.specs.Outside.{FilesState, StreamState, Rose, Holds, HoldsMore, Lacks, Gains, GivesSame, GivesSameBut}
use Rattle.cc_base.specs.declared.kind.Kind.{Kind}
use Rattle.cc_base.specs.declared.text.Span.{Span}
use Rattle.cc_base.specs.declared.running.Limits.{Limits}
use Rattle.cc_base.specs.declared.running.Ending.{Ending}
use Rattle.cc_base.specs.declared.running.Ending.TheVariants as ending
use Rattle.cc_core.specs.StraightSource.{Source}
use Rattle.cc_core.specs.StraightMeaning.{Ran, run_of}
use Rattle.cc_core.specs.SourceRun as meaning
use Rattle.cc_core.specs.SourceRun.{Meaning}
use Rattle.cc_core.specs.declared.tree.ProgramParts.{ProgramParts}
use Rattle.cc_front.specs.Reading as front
use Rattle.cc_front.specs.Reading.{Types}
use Rattle.cc_mean.specs.Ends.{end_of}
use Rattle.cppcli.specs.Notes.{note_of}
use Rattle.cc_cil.specs.declared.body.Body.{Body}
use Rattle.cc_module.specs.declared.module.Module.{Module}
use Rattle.cc_module.specs.Storable.{IsInRange, IsStorable, image_size}
use Rattle.cc_listing.specs.Listing.{ListsModule}
use Rattle.cc_straight.specs.Executing.{run_length}
use Rattle.cc_straight.specs.Reading.{execution, Reads, Refuses}
use Rattle.cc_straight.specs.Straight.{RunsAs}
use Rattle.cc_emit.specs.Program.{image_limit, module_of}
use Rattle.cc_image.specs.Images.{IsImage}
use Rattle.cc_image.specs.Reading.{IsFirstFault}
use Rattle.cc_image.specs.declared.fault.ImageFault.{ImageFault}
use Rattle.cc_verify.specs.Verified.{FirstFault, IsVerified}
use Rattle.cc_verify.specs.declared.fault.VerifyFault.{VerifyFault}
use Rattle.cc_words.specs.Words.{CommandLine, command_line, first_command}
use Rattle.cc_words.specs.declared.command.Command.{Command}
use Rattle.cc_words.specs.declared.command.Command.TheVariants.{Run, Check, Build, Dump, Verify, Mean}
use Rattle.cppcli.specs.declared.outcome.Outcome.{Outcome}
use Rattle.cppcli.specs.declared.status.Status.{Status}
use Rattle.cppcli.specs.declared.status.Status.TheVariants.{Done, Ended, Usage, Absent, ReadFault, WriteFault, TooLong, Refused, NotImage, Unverified, Aborted, HeapLimit, DepthLimit, StepLimit, Going, Memory}

-- the longest source, in bytes
abbrev pub source_limit : ℕ
source_limit = 1048576

-- what an executed program may use
abbrev pub program_limits : Limits
program_limits = record { frames = 4096; cells = 8000000 }

-- this status with its note about a file and its bytes, and nothing for the output
abbrev pub stopped : Status → List ℕ → List ℕ → Outcome
stopped status file bytes = record { status = status; output = []; note = note_of status file bytes }

-- the status of a program that has ended, or that was executed for the greatest number of steps
abbrev pub status_of : Option Ending → Status
status_of (Some (ending.Returned n)) = Ended n
status_of (Some (ending.Aborted type message)) = Aborted type message
status_of (Some ending.HeapLimit) = HeapLimit
status_of (Some ending.DepthLimit) = DepthLimit
status_of None = StepLimit

-- the outcome of a program that was executed to its end
abbrev pub ended : Ran → Outcome
ended ran = record { status = status_of (Some ran.ending); output = ran.output; note = note_of (status_of (Some ran.ending)) [] [] }

-- the outcome of a program that had not ended after its steps
abbrev pub cut : List ℕ → Outcome
cut output = record { status = StepLimit; output = output; note = note_of StepLimit [] [] }

-- the most instructions that the run of a source executes
abbrev pub longest_run : ℕ
longest_run = 2097152

-- A program that may execute so many instructions has its run's outcome where the run has no more; else it has not ended, and printed a front of what the run prints.
abbrev pub IsExecuted : Source → List (List ℕ) → ℕ → Outcome → Type 0
IsExecuted source arguments steps outcome =
    ((run_length source arguments program_limits ≤ steps) × (outcome ≡ ended (run_of source arguments program_limits)))
    ⊎ ((steps < run_length source arguments program_limits) × (run_length source arguments program_limits ≤ longest_run)
    × ((printed more : List ℕ) × ((run_of source arguments program_limits).output ≡ printed ++ more) × (outcome ≡ cut printed)))

-- what the meaning of a program may use
abbrev pub meaning_limits : Limits
meaning_limits = record { frames = 16; cells = 8000000 }

-- the meaning of a program, where each run of a loop makes at most so many turns
abbrev pub meaning_of : ProgramParts → List (List ℕ) → ℕ → Meaning
meaning_of program arguments turns = meaning.run_of program.classes program.bodies program.main [] arguments meaning_limits turns

-- the status of a meaning that has ended, or that goes on past its turns
abbrev pub meant_status : Option Ending → Status
meant_status None = Going
meant_status (Some end) = status_of (Some end)

-- the outcome of a meaning that was executed
abbrev pub meant : Meaning → Outcome
meant run = record { status = meant_status (end_of run.finish); output = run.output; note = note_of (meant_status (end_of run.finish)) [] [] }

-- a word as units of UTF-16
abbrev pub units_of : List ℕ → List ℕ
units_of word = flat_map encode_utf16 (chars word)

-- the arguments of a program
abbrev pub arguments_of : CommandLine → List (List ℕ)
arguments_of line = map units_of line.arguments

-- the outcome of a command that was done and writes nothing
abbrev pub done : Outcome
done = record { status = Done; output = []; note = [] }

-- the outcome of a command that was done and prints a text
abbrev pub printed : List ℕ → Outcome
printed text = record { status = Done; output = text; note = [] }

-- The files as the call found them and as it left them, and whether none of their calls could fail.
pub record FilesRun : Type 1 where
  pub before : FilesState
  pub after : FilesState
  pub quiet : Type 0

-- a load of the name from these files fails, for a cause that the call shows
abbrev pub IsLoadFault : FilesRun → FilesState → List ℕ → ℕ → Status → Type 0
IsLoadFault run files name limit Absent = Lacks files name × Rose (run.before.absences name) (run.after.absences name)
IsLoadFault run files name limit ReadFault = Rose (run.before.load_faults name) (run.after.load_faults name) × (¬ run.quiet)
IsLoadFault run files name limit TooLong = (front : List ℕ) × HoldsMore files name front × (length front ≡ limit + 1)
IsLoadFault run files name limit status = ⊥

-- The steps of a command, each with what the command does next. A step gives the outcome, or the command goes on.

-- the name is loaded from these files
abbrev pub AfterLoad : FilesRun → FilesState → List ℕ → ℕ → Outcome → (List ℕ → Type 0) → Type 0
AfterLoad run files name limit outcome next =
    (IsLoadFault run files name limit outcome.status × (outcome ≡ stopped outcome.status name []))
    ⊎ ((bytes : List ℕ) × Holds files name bytes × (length bytes ≤ limit) × next bytes)

-- the bytes spell a source, and each source that they spell has P
abbrev pub ForSource : List ℕ → (Source → Type 0) → Type 0
ForSource bytes P = ((source : Source) × Reads bytes source) × ((source : Source) → Reads bytes source → P source)

-- the bytes of the file are compiled
abbrev pub AfterCompile : List ℕ → List ℕ → Outcome → (Source → Type 0) → Type 0
AfterCompile file bytes outcome next =
    ((kind : Kind) × (span : Span) × Refuses execution bytes kind span × (outcome ≡ stopped (Refused kind span) file bytes))
    ⊎ ForSource bytes next

-- the bytes of the file are typed; all programs as which they are typed mean the same
abbrev pub AfterTyping : List ℕ → List ℕ → Outcome → (ProgramParts → Type 0) → Type 0
AfterTyping file bytes outcome next =
    ((kind : Kind) × (span : Span) × front.Refuses bytes kind span × (outcome ≡ stopped (Refused kind span) file bytes))
    ⊎ ((program : ProgramParts) × Types bytes program × next program)

-- the name of the image of a file
abbrev pub image_name : List ℕ → List ℕ
image_name file = file ++ codes ".exe"

-- the bytes are a file of a module whose `main` does what the source says
pub record IsImageOf (source : Source) (bytes : List ℕ) : Type 0 where
  pub main : Body
  pub runs : RunsAs main source
  pub is_image : IsImage (module_of main.code) bytes
  pub few : image_size (module_of main.code) ≤ image_limit

-- the bytes are stored under the name: the store fails, or the name gives them where its stores are kept
abbrev pub AfterStore : FilesRun → List ℕ → List ℕ → Outcome → Type 0 → Type 0
AfterStore run name bytes outcome next =
    (Rose (run.before.store_faults name) (run.after.store_faults name) × (¬ run.quiet) × (outcome ≡ stopped WriteFault name []))
    ⊎ ((IsTrue (run.before.keeps name) → run.after.gives name ≡ Some (Some bytes)) × next)

-- the image of the source is stored
abbrev pub IsBuilt : FilesRun → List ℕ → Source → Outcome → Type 0
IsBuilt run name source outcome = (bytes : List ℕ) × IsImageOf source bytes × AfterStore run name bytes outcome (outcome ≡ done)

-- the bytes are a file of the module, and of no other
pub record IsModuleOf (bytes : List ℕ) (m : Module) : Type 0 where
  pub storable : IsStorable m
  pub is_image : IsImage m bytes
  pub only : (other : Module) → IsStorable other → IsInRange other → IsImage other bytes → m ≡ other

-- the bytes are a file of no module, as this check shows first
pub record IsNoImage (bytes : List ℕ) (fault : ImageFault) : Type 0 where
  pub first : IsFirstFault bytes fault
  pub none : (m : Module) → IsStorable m → IsInRange m → IsImage m bytes → ⊥

-- the bytes of the file are read as an image
abbrev pub AfterImage : List ℕ → List ℕ → Outcome → (Module → Type 0) → Type 0
AfterImage file bytes outcome next =
    ((fault : ImageFault) × IsNoImage bytes fault × (outcome ≡ stopped (NotImage fault) file bytes))
    ⊎ ((m : Module) × IsModuleOf bytes m × next m)

-- the module's listing is printed
abbrev pub IsListed : Module → Outcome → Type 0
IsListed m outcome = (text : List ℕ) × ListsModule m text × (outcome ≡ printed text)

-- the module of the file is verified
abbrev pub AfterVerifier : Module → List ℕ → Outcome → Type 0 → Type 0
AfterVerifier m file outcome next =
    ((fault : VerifyFault) × FirstFault m (Some fault) × (outcome ≡ stopped (Unverified fault) file []))
    ⊎ (IsVerified m × next)

-- The commands, each as its steps.
abbrev pub IsOutcomeOf : CommandLine → FilesRun → Outcome → Type 0
IsOutcomeOf line run outcome = by line.command
  where
    by : Command → Type 0
    by Run =
        AfterLoad run run.before line.file source_limit outcome (λ bytes.
        AfterCompile line.file bytes outcome (λ source.
        IsExecuted source (arguments_of line) line.bound outcome))
    by Check =
        AfterLoad run run.before line.file source_limit outcome (λ bytes.
        AfterTyping line.file bytes outcome (λ program.
        outcome ≡ done))
    by Build =
        AfterLoad run run.before line.file source_limit outcome (λ bytes.
        AfterCompile line.file bytes outcome (λ source.
        IsBuilt run (image_name line.file) source outcome))
    by Dump =
        AfterLoad run run.before line.file image_limit outcome (λ bytes.
        AfterImage line.file bytes outcome (λ m.
        IsListed m outcome))
    by Verify =
        AfterLoad run run.before line.file image_limit outcome (λ bytes.
        AfterImage line.file bytes outcome (λ m.
        AfterVerifier m line.file outcome (outcome ≡ done)))
    by Mean =
        AfterLoad run run.before line.file source_limit outcome (λ bytes.
        AfterTyping line.file bytes outcome (λ program.
        outcome ≡ meant (meaning_of program (arguments_of line) line.bound)))

-- what the words ask for; they are no command, or memory runs out, or the command has an outcome
abbrev pub IsOutcomeFor : Option CommandLine → FilesRun → Outcome → Type 0
IsOutcomeFor None run outcome = outcome ≡ stopped Usage [] []
IsOutcomeFor (Some line) run outcome = IsOutcomeOf line run outcome

-- memory may run out where the first word is a command
abbrev pub IsOutcome : List (List ℕ) → FilesRun → Outcome → Type 0
IsOutcome words run outcome = ((outcome ≡ stopped Memory [] []) × (is_some (first_command words) ≡ true)) ⊎ IsOutcomeFor (command_line words) run outcome

-- No name but those that the command stores gives other bytes now, and those only where the command was done or the store failed.
abbrev pub KeepsFiles : Option CommandLine → FilesRun → Status → Type 0
KeepsFiles None run status = GivesSame run.before run.after
KeepsFiles (Some line) run status = by line.command
  where
    by : Command → Type 0
    by Run = GivesSame run.before run.after
    by Check = GivesSame run.before run.after
    by Dump = GivesSame run.before run.after
    by Verify = GivesSame run.before run.after
    by Mean = GivesSame run.before run.after
    by Build = GivesSameBut (image_name line.file) run.before run.after × (status ≢ Done → status ≢ WriteFault → GivesSame run.before run.after)

-- The sinks as the call found them and as it left them, and the numbers of bytes that they were sure to take.
pub record SinksRun : Type 1 where
  pub output : StreamState
  pub output' : StreamState
  pub output_takes : ℕ → Type 0
  pub notes : StreamState
  pub notes' : StreamState
  pub notes_takes : ℕ → Type 0

-- all was written
pub record IsWritten (outcome : Outcome) (sinks : SinksRun) (answer : Status) : Type 0 where
  pub as_due : answer ≡ outcome.status
  pub output : Gains sinks.output sinks.output' outcome.output
  pub note : Gains sinks.notes sinks.notes' outcome.note

-- a write of the output failed behind a front of it, and nothing was given to the notes
pub record IsOutputCut (outcome : Outcome) (sinks : SinksRun) (answer : Status) : Type 0 where
  pub as_fault : answer ≡ WriteFault
  pub cause : Rose sinks.output.faults sinks.output'.faults
  pub short : (room : ℕ) → sinks.output_takes room → room < length outcome.output
  pub output : (count : ℕ) × (count < length outcome.output) × Gains sinks.output sinks.output' (take count outcome.output)
  pub note : sinks.notes' ≡ sinks.notes

-- the output was written, and a write of the note failed behind a front of it
pub record IsNoteCut (outcome : Outcome) (sinks : SinksRun) (answer : Status) : Type 0 where
  pub as_fault : answer ≡ WriteFault
  pub cause : Rose sinks.notes.faults sinks.notes'.faults
  pub short : (room : ℕ) → sinks.notes_takes room → room < length outcome.note
  pub output : Gains sinks.output sinks.output' outcome.output
  pub note : (count : ℕ) × (count < length outcome.note) × Gains sinks.notes sinks.notes' (take count outcome.note)

abbrev pub IsDelivered : Outcome → SinksRun → Status → Type 0
IsDelivered outcome sinks answer = IsWritten outcome sinks answer ⊎ IsOutputCut outcome sinks answer ⊎ IsNoteCut outcome sinks answer

-- The contract of the program: the words have an outcome, and it is written, or a failed write cuts it short.
pub record IsAnswer (words : List (List ℕ)) (run : FilesRun) (sinks : SinksRun) (answer : Status) : Type 0 where
  pub outcome : Outcome
  pub is_outcome : IsOutcome words run outcome
  pub keeps_files : KeepsFiles (command_line words) run outcome.status
  pub is_delivered : IsDelivered outcome sinks answer
