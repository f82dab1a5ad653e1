-- What each answer tells: the rows that follow from the contract of the program.
use Rattle.std.proofs.Common.{◌≡◌, ◌≢◌, ◌⊎◌, ◌≤◌, ◌<◌, inl, inr, ℕ, List, refl, ap, ◌∙◌, sym, subst, arith}
use Rattle.std.specs.Prelude.{Bool, true, false, Option, Some, None, is_some, length}
use Rattle.cc_base.specs.Outside.{FilesState, Gains, Holds}
use Rattle.cc_base.specs.declared.kind.Kind.{Kind}
use Rattle.cc_base.specs.declared.text.Span.{Span}
use Rattle.cc_base.specs.declared.running.Ending.{Ending}
use Rattle.cc_base.specs.declared.running.Ending.TheVariants as ending
use Rattle.cc_core.specs.StraightSource.{Source}
use Rattle.cc_core.specs.StraightMeaning.{run_of}
use Rattle.cc_core.specs.SourceRun.{Meaning}
use Rattle.cc_core.specs.declared.tree.ProgramParts.{ProgramParts}
use Rattle.cc_front.specs.Reading as front
use Rattle.cc_front.specs.Reading.{Types}
use Rattle.cc_straight.specs.Reading as straight
use Rattle.cc_mean.specs.Ends.{end_of}
use Rattle.cc_emit.specs.Program.{image_limit}
use Rattle.cc_image.specs.declared.fault.ImageFault.{ImageFault}
use Rattle.cc_module.specs.declared.module.Module.{Module}
use Rattle.cc_verify.specs.Verified.{FirstFault}
use Rattle.cc_verify.specs.declared.fault.VerifyFault.{VerifyFault}
use Rattle.cc_straight.specs.Executing.{run_length}
use Rattle.cc_words.specs.Words.{CommandLine, command_line, first_command}
use Rattle.cc_words.specs.declared.command.Command.{Command}
use Rattle.cc_words.specs.declared.command.Command.TheVariants.{Run, Check, Build, Dump, Verify, Mean}
use Rattle.cppcli.specs.Answers.{FilesRun, SinksRun, AfterCompile, AfterImage, AfterLoad, AfterTyping, AfterVerifier, IsBuilt, IsListed, IsExecuted, IsLoadFault, IsNoImage, IsOutcome, IsOutcomeOf, IsOutcomeFor, IsDelivered, IsWritten, IsAnswer, arguments_of, done, image_name, longest_run, meaning_of, meant, meant_status, source_limit, program_limits, status_of}
use Rattle.cppcli.specs.Complete.{IsMade, IsResult}
use Rattle.cppcli.specs.Rows.{limit_of, AcceptedFrom, DoneFrom, ForCommand, GoingRow, ListedFrom, ModuleFrom, NoImageFrom, NotImageRow, RefusedFrom, RefusesFor, EndedFrom, Ends, TypedFrom, StoreFails, UsageRow, AbsentRow, ReadFaultRow, WriteFaultRow, TooLongRow, RefusedRow, EndedRow, StepLimitRow, MemoryRow, UnverifiedRow, AnswerTable, DoneRow, reads_image}
use Rattle.cppcli.specs.declared.outcome.Outcome.{Outcome}
use Rattle.cppcli.specs.declared.status.Status.{Status}
use Rattle.cppcli.specs.declared.status.Status.TheVariants.{Done, Ended, Usage, Absent, ReadFault, WriteFault, TooLong, Refused, NotImage, Unverified, Aborted, HeapLimit, DepthLimit, StepLimit, Going, Memory}

-- where a status comes from
data Stage : Type 0 where
  at_load : Stage
  at_compilation : Stage
  at_image : Stage
  at_verifier : Stage
  at_execution : Stage
  at_meaning : Stage
  at_store : Stage
  at_end : Stage
  elsewhere : Stage

abbrev stage_of : Status → Stage
stage_of Absent = at_load
stage_of ReadFault = at_load
stage_of TooLong = at_load
stage_of (Refused kind span) = at_compilation
stage_of (NotImage fault) = at_image
stage_of (Unverified fault) = at_verifier
stage_of (Ended number) = at_execution
stage_of (Aborted type message) = at_execution
stage_of HeapLimit = at_execution
stage_of DepthLimit = at_execution
stage_of StepLimit = at_execution
stage_of WriteFault = at_store
stage_of Done = at_end
stage_of Usage = elsewhere
stage_of Going = at_meaning
stage_of Memory = elsewhere

-- behind the compilation
abbrev is_late : Stage → Bool
is_late at_load = false
is_late at_compilation = false
is_late at_image = false
is_late at_verifier = false
is_late at_execution = true
is_late at_meaning = true
is_late at_store = true
is_late at_end = true
is_late elsewhere = false

abbrev status_of_outcome : Outcome → Status
status_of_outcome outcome = outcome.status

abbrev output_of_outcome : Outcome → List ℕ
output_of_outcome outcome = outcome.output

stage_of_load : (run : FilesRun) (files : FilesState) (name : List ℕ) (limit : ℕ) (status : Status) → IsLoadFault run files name limit status → stage_of status ≡ at_load
stage_of_load run files name limit Absent fault = refl
stage_of_load run files name limit ReadFault fault = refl
stage_of_load run files name limit TooLong fault = refl
stage_of_load run files name limit status fault = absurd fault

stage_of_end : (end : Ending) → stage_of (status_of (Some end)) ≡ at_execution
stage_of_end (ending.Returned number) = refl
stage_of_end (ending.Aborted type message) = refl
stage_of_end ending.HeapLimit = refl
stage_of_end ending.DepthLimit = refl

-- the ending that a status tells
abbrev ending_in : Status → Option Ending
ending_in (Ended number) = Some (ending.Returned number)
ending_in (Aborted type message) = Some (ending.Aborted type message)
ending_in HeapLimit = Some ending.HeapLimit
ending_in DepthLimit = Some ending.DepthLimit
ending_in status = None

told_ending : (end : Ending) → ending_in (status_of (Some end)) ≡ Some end
told_ending (ending.Returned number) = refl
told_ending (ending.Aborted type message) = refl
told_ending ending.HeapLimit = refl
told_ending ending.DepthLimit = refl

same_ending : (end other : Ending) → status_of (Some end) ≡ status_of (Some other) → end ≡ other
same_ending end other same = let both : Some end ≡ Some other = sym (told_ending end) ∙ ap ending_in same ∙ told_ending other in cc

-- a status that tells no ending is that of none
no_ending : (outcome : Outcome) (status : Status) (end : Ending) → outcome.status ≡ status_of (Some end) → outcome.status ≡ status → ending_in status ≡ None → ⊥
no_ending outcome status end is other none = let both : Some end ≡ None = sym (told_ending end) ∙ sym (ap ending_in is) ∙ ap ending_in other ∙ none in cc

stage_of_execution : (source : Source) (arguments : List (List ℕ)) (steps : ℕ) (outcome : Outcome) → IsExecuted source arguments steps outcome → stage_of outcome.status ≡ at_execution
stage_of_execution source arguments steps outcome (inl (enough, is)) = ap (λ (o : Outcome). stage_of o.status) is ∙ stage_of_end (run_of source arguments program_limits).ending
stage_of_execution source arguments steps outcome (inr (few, short, (printed, more, front, is))) = ap (λ (o : Outcome). stage_of o.status) is

-- what a command makes of a source comes behind the compilation
late : (command : Command) (file : List ℕ) (bound : ℕ) (arguments : List (List ℕ)) (run : FilesRun) (source : Source) (outcome : Outcome)
    → IsResult (record { command = command; file = file; bound = bound; arguments = arguments }) run source outcome → is_late (stage_of outcome.status) ≡ true
late Run file bound arguments run source outcome is = ap is_late (stage_of_execution source (arguments_of (record { command = Run; file = file; bound = bound; arguments = arguments })) bound outcome is)
late Check file bound arguments run source outcome is = absurd is
late Build file bound arguments run source outcome (bytes, image, inl (rose, loud, is)) = ap (λ (o : Outcome). is_late (stage_of o.status)) is
late Build file bound arguments run source outcome (bytes, image, inr (kept, is)) = ap (λ (o : Outcome). is_late (stage_of o.status)) is
late Dump file bound arguments run source outcome is = absurd is
late Verify file bound arguments run source outcome is = absurd is
late Mean file bound arguments run source outcome is = absurd is

late_end : (end : Option Ending) → is_late (stage_of (meant_status end)) ≡ true
late_end None = refl
late_end (Some (ending.Returned number)) = refl
late_end (Some (ending.Aborted type message)) = refl
late_end (Some ending.HeapLimit) = refl
late_end (Some ending.DepthLimit) = refl

-- what a command makes of a typed program comes behind the compilation
late_made : (command : Command) (file : List ℕ) (bound : ℕ) (arguments : List (List ℕ)) (program : ProgramParts) (outcome : Outcome)
    → IsMade (record { command = command; file = file; bound = bound; arguments = arguments }) program outcome → is_late (stage_of outcome.status) ≡ true
late_made Run file bound arguments program outcome is = absurd is
late_made Check file bound arguments program outcome is = ap (λ (o : Outcome). is_late (stage_of o.status)) is
late_made Build file bound arguments program outcome is = absurd is
late_made Dump file bound arguments program outcome is = absurd is
late_made Verify file bound arguments program outcome is = absurd is
late_made Mean file bound arguments program outcome is =
    let run = meaning_of program (arguments_of (record { command = Mean; file = file; bound = bound; arguments = arguments })) bound in
    ap (λ (o : Outcome). is_late (stage_of o.status)) is ∙ late_end (end_of run.finish)

-- what a command reads its file as
pub data Reading : Type 0 where
  as_source : Reading
  as_program : Reading
  as_image : Reading

abbrev pub reads : Command → Reading
reads Run = as_source
reads Check = as_program
reads Build = as_source
reads Dump = as_image
reads Verify = as_image
reads Mean = as_program

-- the steps of the commands that compile a source
abbrev pub Compiled : CommandLine → FilesRun → Outcome → Type 0
Compiled line run outcome = AfterLoad run run.before line.file source_limit outcome (λ bytes. AfterCompile line.file bytes outcome (λ source. IsResult line run source outcome))

-- those of the commands that type a source
abbrev pub Typed : CommandLine → FilesRun → Outcome → Type 0
Typed line run outcome = AfterLoad run run.before line.file source_limit outcome (λ bytes. AfterTyping line.file bytes outcome (λ program. IsMade line program outcome))

-- what a command makes of a module that it reads: its listing, or the word of the verifier
abbrev pub IsShown : CommandLine → Module → Outcome → Type 0
IsShown line m outcome = by line.command
  where
    by : Command → Type 0
    by Run = ⊥
    by Check = ⊥
    by Build = ⊥
    by Dump = IsListed m outcome
    by Verify = AfterVerifier m line.file outcome (outcome ≡ done)
    by Mean = ⊥

-- those of the commands that read an image
abbrev pub Shown : CommandLine → FilesRun → Outcome → Type 0
Shown line run outcome = AfterLoad run run.before line.file image_limit outcome (λ bytes. AfterImage line.file bytes outcome (λ m. IsShown line m outcome))

-- the steps that a command has
pub data Due (line : CommandLine) (run : FilesRun) (outcome : Outcome) : Type 0 where
  compiled : reads line.command ≡ as_source → Compiled line run outcome → Due line run outcome
  typed : reads line.command ≡ as_program → Typed line run outcome → Due line run outcome
  shown : reads line.command ≡ as_image → Shown line run outcome → Due line run outcome

pub due_of : (command : Command) (file : List ℕ) (bound : ℕ) (arguments : List (List ℕ)) (run : FilesRun) (outcome : Outcome)
    → IsOutcomeOf (record { command = command; file = file; bound = bound; arguments = arguments }) run outcome → Due (record { command = command; file = file; bound = bound; arguments = arguments }) run outcome
due_of Run file bound arguments run outcome is = compiled refl is
due_of Check file bound arguments run outcome is = typed refl is
due_of Build file bound arguments run outcome is = compiled refl is
due_of Dump file bound arguments run outcome is = shown refl is
due_of Verify file bound arguments run outcome is = shown refl is
due_of Mean file bound arguments run outcome is = typed refl is

-- the stages behind an image
abbrev is_of_module : Stage → Bool
is_of_module at_verifier = true
is_of_module at_end = true
is_of_module stage = false

-- and those of an image
abbrev is_of_image : Stage → Bool
is_of_image at_image = true
is_of_image stage = is_of_module stage

-- those that no other command has
abbrev is_image_alone : Stage → Bool
is_image_alone at_image = true
is_image_alone at_verifier = true
is_image_alone stage = false

image_of_module : (stage : Stage) → is_of_module stage ≡ true → is_of_image stage ≡ true
image_of_module at_verifier is = refl
image_of_module at_end is = refl
image_of_module stage is = absurd cc

late_no_image : (stage : Stage) → is_late stage ≡ true → is_image_alone stage ≡ false
late_no_image at_execution is = refl
late_no_image at_meaning is = refl
late_no_image at_store is = refl
late_no_image at_end is = refl
late_no_image stage is = absurd cc

-- a late stage of an image is the end
late_at_end : (stage : Stage) → is_of_image stage ≡ true → is_late stage ≡ true → stage ≡ at_end
late_at_end at_end is behind = refl
late_at_end stage is behind = absurd cc

stage_of_module : (command : Command) (file : List ℕ) (bound : ℕ) (arguments : List (List ℕ)) (m : Module) (outcome : Outcome)
    → IsShown (record { command = command; file = file; bound = bound; arguments = arguments }) m outcome → is_of_module (stage_of outcome.status) ≡ true
stage_of_module Run file bound arguments m outcome is = absurd is
stage_of_module Check file bound arguments m outcome is = absurd is
stage_of_module Build file bound arguments m outcome is = absurd is
stage_of_module Dump file bound arguments m outcome is = ap (λ (o : Outcome). is_of_module (stage_of o.status)) is.2
stage_of_module Verify file bound arguments m outcome (inl broken) = ap (λ (o : Outcome). is_of_module (stage_of o.status)) broken.2
stage_of_module Verify file bound arguments m outcome (inr kept) = ap (λ (o : Outcome). is_of_module (stage_of o.status)) kept.1
stage_of_module Mean file bound arguments m outcome is = absurd is

-- where the stage of the outcome of an image is
stage_of_image : (line : CommandLine) (bytes : List ℕ) (outcome : Outcome) → AfterImage line.file bytes outcome (λ m. IsShown line m outcome) → is_of_image (stage_of outcome.status) ≡ true
stage_of_image line bytes outcome (inl none) = ap (λ (o : Outcome). is_of_image (stage_of o.status)) none.2
stage_of_image line bytes outcome (inr found) = image_of_module (stage_of outcome.status) (stage_of_module line.command line.file line.bound line.arguments found.0 outcome found.2)

compiled_limit : (command : Command) → reads command ≡ as_source → limit_of command ≡ source_limit
compiled_limit Run is = refl
compiled_limit Check is = absurd cc
compiled_limit Build is = refl
compiled_limit Dump is = absurd cc
compiled_limit Verify is = absurd cc
compiled_limit Mean is = absurd cc

typed_limit : (command : Command) → reads command ≡ as_program → limit_of command ≡ source_limit
typed_limit Run is = absurd cc
typed_limit Check is = refl
typed_limit Build is = absurd cc
typed_limit Dump is = absurd cc
typed_limit Verify is = absurd cc
typed_limit Mean is = refl

shown_limit : (command : Command) → reads command ≡ as_image → limit_of command ≡ image_limit
shown_limit Run is = absurd cc
shown_limit Check is = absurd cc
shown_limit Build is = absurd cc
shown_limit Dump is = refl
shown_limit Verify is = refl
shown_limit Mean is = absurd cc

shown_reads : (command : Command) → reads command ≡ as_image → reads_image command ≡ true
shown_reads Run is = absurd cc
shown_reads Check is = absurd cc
shown_reads Build is = absurd cc
shown_reads Dump is = refl
shown_reads Verify is = refl
shown_reads Mean is = absurd cc

-- an outcome by its stage
at_its_load : (line : CommandLine) (run : FilesRun) (outcome : Outcome) → stage_of outcome.status ≡ at_load → Due line run outcome → IsLoadFault run run.before line.file (limit_of line.command) outcome.status
at_its_load line run outcome at (compiled reads_it (inl fault)) = subst (λ (n : ℕ). IsLoadFault run run.before line.file n outcome.status) (sym (compiled_limit line.command reads_it)) fault.0
at_its_load line run outcome at (compiled reads_it (inr loaded)) = absurd (elim loaded.3 [
  | inl refused ↦ let due : outcome.status ≡ Refused refused.0 refused.1 = ap status_of_outcome refused.3 in let stage : stage_of outcome.status ≡ at_compilation = ap stage_of due in cc
  | inr accepted ↦ let behind = late line.command line.file line.bound line.arguments run accepted.0.0 outcome (accepted.1 accepted.0.0 accepted.0.1) in let before : is_late (stage_of outcome.status) ≡ false = ap is_late at in cc
])
at_its_load line run outcome at (typed reads_it (inl fault)) = subst (λ (n : ℕ). IsLoadFault run run.before line.file n outcome.status) (sym (typed_limit line.command reads_it)) fault.0
at_its_load line run outcome at (typed reads_it (inr loaded)) = absurd (elim loaded.3 [
  | inl refused ↦ let due : outcome.status ≡ Refused refused.0 refused.1 = ap status_of_outcome refused.3 in let stage : stage_of outcome.status ≡ at_compilation = ap stage_of due in cc
  | inr accepted ↦ let behind = late_made line.command line.file line.bound line.arguments accepted.0 outcome accepted.2 in let before : is_late (stage_of outcome.status) ≡ false = ap is_late at in cc
])
at_its_load line run outcome at (shown reads_it (inl fault)) = subst (λ (n : ℕ). IsLoadFault run run.before line.file n outcome.status) (sym (shown_limit line.command reads_it)) fault.0
at_its_load line run outcome at (shown reads_it (inr read)) = absurd (let behind = stage_of_image line read.0 outcome read.3 in let before : is_of_image (stage_of outcome.status) ≡ false = ap is_of_image at in cc)

compiled_refusal : (command : Command) (bytes : List ℕ) (kind : Kind) (span : Span) → reads command ≡ as_source → straight.Refuses straight.execution bytes kind span → RefusesFor command bytes kind span
compiled_refusal Run bytes kind span is refused = refused
compiled_refusal Check bytes kind span is refused = absurd cc
compiled_refusal Build bytes kind span is refused = refused
compiled_refusal Dump bytes kind span is refused = absurd cc
compiled_refusal Verify bytes kind span is refused = absurd cc
compiled_refusal Mean bytes kind span is refused = absurd cc

typed_refusal : (command : Command) (bytes : List ℕ) (kind : Kind) (span : Span) → reads command ≡ as_program → front.Refuses bytes kind span → RefusesFor command bytes kind span
typed_refusal Run bytes kind span is refused = absurd cc
typed_refusal Check bytes kind span is refused = refused
typed_refusal Build bytes kind span is refused = absurd cc
typed_refusal Dump bytes kind span is refused = absurd cc
typed_refusal Verify bytes kind span is refused = absurd cc
typed_refusal Mean bytes kind span is refused = refused

at_its_compilation : (line : CommandLine) (run : FilesRun) (outcome : Outcome) (kind : Kind) (span : Span) → outcome.status ≡ Refused kind span → Due line run outcome → RefusedFrom run line kind span
at_its_compilation line run outcome kind span is (compiled reads_it (inl fault)) = absurd (let at : stage_of outcome.status ≡ at_load = stage_of_load run run.before line.file source_limit outcome.status fault.0 in let stage : stage_of outcome.status ≡ at_compilation = ap stage_of is in cc)
at_its_compilation line run outcome kind span is (compiled reads_it (inr loaded)) = elim loaded.3 [
  | inl refused ↦
      let own : outcome.status ≡ Refused refused.0 refused.1 = ap status_of_outcome refused.3 in
      let kinds : refused.0 ≡ kind = cc in
      let spans : refused.1 ≡ span = cc in
      (loaded.0, loaded.1, loaded.2, compiled_refusal line.command loaded.0 kind span reads_it (rw (← kinds, ← spans) refused.2))
  | inr accepted ↦ absurd (let behind = late line.command line.file line.bound line.arguments run accepted.0.0 outcome (accepted.1 accepted.0.0 accepted.0.1) in let before : is_late (stage_of outcome.status) ≡ false = ap (λ (s : Status). is_late (stage_of s)) is in cc)
]
at_its_compilation line run outcome kind span is (typed reads_it (inl fault)) = absurd (let at : stage_of outcome.status ≡ at_load = stage_of_load run run.before line.file source_limit outcome.status fault.0 in let stage : stage_of outcome.status ≡ at_compilation = ap stage_of is in cc)
at_its_compilation line run outcome kind span is (typed reads_it (inr loaded)) = elim loaded.3 [
  | inl refused ↦
      let own : outcome.status ≡ Refused refused.0 refused.1 = ap status_of_outcome refused.3 in
      let kinds : refused.0 ≡ kind = cc in
      let spans : refused.1 ≡ span = cc in
      (loaded.0, loaded.1, loaded.2, typed_refusal line.command loaded.0 kind span reads_it (rw (← kinds, ← spans) refused.2))
  | inr accepted ↦ absurd (let behind = late_made line.command line.file line.bound line.arguments accepted.0 outcome accepted.2 in let before : is_late (stage_of outcome.status) ≡ false = ap (λ (s : Status). is_late (stage_of s)) is in cc)
]
at_its_compilation line run outcome kind span is (shown reads_it (inl fault)) = absurd (let at : stage_of outcome.status ≡ at_load = stage_of_load run run.before line.file image_limit outcome.status fault.0 in let stage : stage_of outcome.status ≡ at_compilation = ap stage_of is in cc)
at_its_compilation line run outcome kind span is (shown reads_it (inr read)) = absurd (let behind = stage_of_image line read.0 outcome read.3 in let before : is_of_image (stage_of outcome.status) ≡ false = ap (λ (s : Status). is_of_image (stage_of s)) is in cc)

-- what only an image decides is of a command that reads one
image_read : (line : CommandLine) (run : FilesRun) (outcome : Outcome) → is_image_alone (stage_of outcome.status) ≡ true → Due line run outcome
    → (reads line.command ≡ as_image) × (bytes : List ℕ) × Holds run.before line.file bytes × (length bytes ≤ image_limit) × AfterImage line.file bytes outcome (λ m. IsShown line m outcome)
image_read line run outcome alone (compiled reads_it (inl fault)) = absurd (let at : is_image_alone (stage_of outcome.status) ≡ false = ap is_image_alone (stage_of_load run run.before line.file source_limit outcome.status fault.0) in cc)
image_read line run outcome alone (compiled reads_it (inr loaded)) = absurd (elim loaded.3 [
  | inl refused ↦ let at : is_image_alone (stage_of outcome.status) ≡ false = ap (λ (o : Outcome). is_image_alone (stage_of o.status)) refused.3 in cc
  | inr accepted ↦ let at = late_no_image (stage_of outcome.status) (late line.command line.file line.bound line.arguments run accepted.0.0 outcome (accepted.1 accepted.0.0 accepted.0.1)) in cc
])
image_read line run outcome alone (typed reads_it (inl fault)) = absurd (let at : is_image_alone (stage_of outcome.status) ≡ false = ap is_image_alone (stage_of_load run run.before line.file source_limit outcome.status fault.0) in cc)
image_read line run outcome alone (typed reads_it (inr loaded)) = absurd (elim loaded.3 [
  | inl refused ↦ let at : is_image_alone (stage_of outcome.status) ≡ false = ap (λ (o : Outcome). is_image_alone (stage_of o.status)) refused.3 in cc
  | inr accepted ↦ let at = late_no_image (stage_of outcome.status) (late_made line.command line.file line.bound line.arguments accepted.0 outcome accepted.2) in cc
])
image_read line run outcome alone (shown reads_it (inl fault)) = absurd (let at : is_image_alone (stage_of outcome.status) ≡ false = ap is_image_alone (stage_of_load run run.before line.file image_limit outcome.status fault.0) in cc)
image_read line run outcome alone (shown reads_it (inr read)) = (reads_it, read.0, read.1, read.2, read.3)

at_its_image : (line : CommandLine) (run : FilesRun) (outcome : Outcome) (fault : ImageFault) → outcome.status ≡ NotImage fault → Due line run outcome → (reads_image line.command ≡ true) × NoImageFrom run line.file fault
at_its_image line run outcome fault is due =
    let found = image_read line run outcome (ap (λ (s : Status). is_image_alone (stage_of s)) is) due in
    elim found.4 [
      | inl none ↦
          let own : outcome.status ≡ NotImage none.0 = ap status_of_outcome none.2 in
          let faults : none.0 ≡ fault = cc in
          (shown_reads line.command found.0, (found.1, found.2, found.3, subst (λ (f : ImageFault). IsNoImage found.1 f) faults none.1))
      | inr read ↦ absurd (
          let behind = stage_of_module line.command line.file line.bound line.arguments read.0 outcome read.2 in
          let before : is_of_module (stage_of outcome.status) ≡ false = ap (λ (s : Status). is_of_module (stage_of s)) is in cc)
    ]

-- a broken rule is the verifier's word
broken_shown : (command : Command) (file : List ℕ) (bound : ℕ) (arguments : List (List ℕ)) (m : Module) (outcome : Outcome) (fault : VerifyFault) → outcome.status ≡ Unverified fault
    → IsShown (record { command = command; file = file; bound = bound; arguments = arguments }) m outcome → (command ≡ Verify) × FirstFault m (Some fault)
broken_shown Run file bound arguments m outcome fault status is = absurd is
broken_shown Check file bound arguments m outcome fault status is = absurd is
broken_shown Build file bound arguments m outcome fault status is = absurd is
broken_shown Dump file bound arguments m outcome fault status is = absurd (let other : outcome.status ≡ Done = ap status_of_outcome is.2 in cc)
broken_shown Verify file bound arguments m outcome fault status (inl broken) =
    let own : outcome.status ≡ Unverified broken.0 = ap status_of_outcome broken.2 in
    let faults : broken.0 ≡ fault = cc in
    (refl, rw (← faults) broken.1)
broken_shown Verify file bound arguments m outcome fault status (inr kept) = absurd (let other : outcome.status ≡ Done = ap status_of_outcome kept.1 in cc)
broken_shown Mean file bound arguments m outcome fault status is = absurd is

at_its_verifier : (line : CommandLine) (run : FilesRun) (outcome : Outcome) (fault : VerifyFault) → outcome.status ≡ Unverified fault → Due line run outcome
    → (line.command ≡ Verify) × (m : Module) × ModuleFrom run line.file m × FirstFault m (Some fault)
at_its_verifier line run outcome fault is due =
    let found = image_read line run outcome (ap (λ (s : Status). is_image_alone (stage_of s)) is) due in
    elim found.4 [
      | inl none ↦ absurd (let other : outcome.status ≡ NotImage none.0 = ap status_of_outcome none.2 in cc)
      | inr read ↦
          let broken = broken_shown line.command line.file line.bound line.arguments read.0 outcome fault is read.2 in
          (broken.0, read.0, (found.1, found.2, found.3, read.1), broken.1)
    ]

-- what a late outcome is of: a source that was compiled, or a program that was typed
data Late (line : CommandLine) (run : FilesRun) (outcome : Outcome) : Type 0 where
  of_source : (source : Source) → AcceptedFrom run line.file source → IsResult line run source outcome → Late line run outcome
  of_program : (program : ProgramParts) → TypedFrom run line.file program → IsMade line program outcome → Late line run outcome

late_from : (line : CommandLine) (run : FilesRun) (outcome : Outcome) (bytes : List ℕ) → is_late (stage_of outcome.status) ≡ true → Holds run.before line.file bytes → length bytes ≤ source_limit
    → AfterCompile line.file bytes outcome (λ source. IsResult line run source outcome) → Late line run outcome
late_from line run outcome bytes behind held short (inl refused) = absurd (let at : is_late (stage_of outcome.status) ≡ false = ap (λ (o : Outcome). is_late (stage_of o.status)) refused.3 in cc)
late_from line run outcome bytes behind held short (inr accepted) = of_source accepted.0.0 (bytes, held, short, accepted.0.1) (accepted.1 accepted.0.0 accepted.0.1)

late_typed : (line : CommandLine) (run : FilesRun) (outcome : Outcome) (bytes : List ℕ) → is_late (stage_of outcome.status) ≡ true → Holds run.before line.file bytes → length bytes ≤ source_limit
    → AfterTyping line.file bytes outcome (λ program. IsMade line program outcome) → Late line run outcome
late_typed line run outcome bytes behind held short (inl refused) = absurd (let at : is_late (stage_of outcome.status) ≡ false = ap (λ (o : Outcome). is_late (stage_of o.status)) refused.3 in cc)
late_typed line run outcome bytes behind held short (inr accepted) = of_program accepted.0 (bytes, held, short, accepted.1) accepted.2

at_its_result : (line : CommandLine) (run : FilesRun) (outcome : Outcome) → is_late (stage_of outcome.status) ≡ true → stage_of outcome.status ≢ at_end → Due line run outcome → Late line run outcome
at_its_result line run outcome behind before_end (compiled reads_it (inl fault)) = absurd (let at : is_late (stage_of outcome.status) ≡ false = ap is_late (stage_of_load run run.before line.file source_limit outcome.status fault.0) in cc)
at_its_result line run outcome behind before_end (compiled reads_it (inr loaded)) = late_from line run outcome loaded.0 behind loaded.1 loaded.2 loaded.3
at_its_result line run outcome behind before_end (typed reads_it (inl fault)) = absurd (let at : is_late (stage_of outcome.status) ≡ false = ap is_late (stage_of_load run run.before line.file source_limit outcome.status fault.0) in cc)
at_its_result line run outcome behind before_end (typed reads_it (inr loaded)) = late_typed line run outcome loaded.0 behind loaded.1 loaded.2 loaded.3
at_its_result line run outcome behind before_end (shown reads_it (inl fault)) = absurd (let at : is_late (stage_of outcome.status) ≡ false = ap is_late (stage_of_load run run.before line.file image_limit outcome.status fault.0) in cc)
at_its_result line run outcome behind before_end (shown reads_it (inr read)) = absurd (before_end (late_at_end (stage_of outcome.status) (stage_of_image line read.0 outcome read.3) behind))

-- a command's outcome is neither about the words nor want of memory
not_elsewhere : (line : CommandLine) (run : FilesRun) (outcome : Outcome) → Due line run outcome → stage_of outcome.status ≢ elsewhere
not_elsewhere line run outcome (compiled reads_it (inl fault)) is = let at : stage_of outcome.status ≡ at_load = stage_of_load run run.before line.file source_limit outcome.status fault.0 in cc
not_elsewhere line run outcome (compiled reads_it (inr loaded)) is = elim loaded.3 [
  | inl refused ↦ let at : stage_of outcome.status ≡ at_compilation = ap (λ (o : Outcome). stage_of o.status) refused.3 in cc
  | inr accepted ↦ let behind = late line.command line.file line.bound line.arguments run accepted.0.0 outcome (accepted.1 accepted.0.0 accepted.0.1) in let before : is_late (stage_of outcome.status) ≡ false = ap is_late is in cc
]
not_elsewhere line run outcome (typed reads_it (inl fault)) is = let at : stage_of outcome.status ≡ at_load = stage_of_load run run.before line.file source_limit outcome.status fault.0 in cc
not_elsewhere line run outcome (typed reads_it (inr loaded)) is = elim loaded.3 [
  | inl refused ↦ let at : stage_of outcome.status ≡ at_compilation = ap (λ (o : Outcome). stage_of o.status) refused.3 in cc
  | inr accepted ↦ let behind = late_made line.command line.file line.bound line.arguments accepted.0 outcome accepted.2 in let before : is_late (stage_of outcome.status) ≡ false = ap is_late is in cc
]
not_elsewhere line run outcome (shown reads_it (inl fault)) is = let at : stage_of outcome.status ≡ at_load = stage_of_load run run.before line.file image_limit outcome.status fault.0 in cc
not_elsewhere line run outcome (shown reads_it (inr read)) is = let behind = stage_of_image line read.0 outcome read.3 in let before : is_of_image (stage_of outcome.status) ≡ false = ap is_of_image is in cc

-- a status that is no write fault was due, and all was written
written_of : (outcome : Outcome) (sinks : SinksRun) (answer : Status) → answer ≢ WriteFault → IsDelivered outcome sinks answer → IsWritten outcome sinks answer
written_of outcome sinks answer other (inl written) = written
written_of outcome sinks answer other (inr (inl cut)) = absurd (other cut.as_fault)
written_of outcome sinks answer other (inr (inr cut)) = absurd (other cut.as_fault)

-- an outcome that is neither about the words nor want of memory is a command's
record Cause (words : List (List ℕ)) (run : FilesRun) (outcome : Outcome) : Type 0 where
  line : CommandLine
  words_are : command_line words ≡ Some line
  due : Due line run outcome

cause_of : (words : List (List ℕ)) (run : FilesRun) (outcome : Outcome) → stage_of outcome.status ≢ elsewhere → IsOutcome words run outcome → Cause words run outcome
cause_of words run outcome staged (inl memory) = absurd (staged (ap (λ (o : Outcome). stage_of o.status) memory.0))
cause_of words run outcome staged (inr is) = go (command_line words) refl is
  where
    go : (order : Option CommandLine) → command_line words ≡ order → IsOutcomeFor order run outcome → Cause words run outcome
    go None same usage = absurd (staged (ap (λ (o : Outcome). stage_of o.status) usage))
    go (Some line) same due = record { line = line; words_are = same; due = due_of line.command line.file line.bound line.arguments run outcome due }

-- the cause of an answer that is no write fault, and its outcome's status
record Told (words : List (List ℕ)) (run : FilesRun) (sinks : SinksRun) (status : Status) : Type 0 where
  outcome : Outcome
  is : outcome.status ≡ status
  cause : Cause words run outcome
  written : IsWritten outcome sinks status

told_of : (words : List (List ℕ)) (run : FilesRun) (sinks : SinksRun) (answer status : Status) → answer ≡ status → status ≢ WriteFault → stage_of status ≢ elsewhere → IsAnswer words run sinks answer → Told words run sinks status
told_of words run sinks answer status same other staged is =
    let written = written_of is.outcome sinks answer (λ fault. other (sym same ∙ fault)) is.is_delivered in
    let due : is.outcome.status ≡ status = sym written.as_due ∙ same in
    record {
      outcome = is.outcome;
      is = due;
      cause = cause_of words run is.outcome (λ at. staged (ap stage_of (sym due) ∙ at)) is.is_outcome;
      written = rw (← same) written;
    }

load_row : (words : List (List ℕ)) (run : FilesRun) (sinks : SinksRun) (status : Status) → stage_of status ≡ at_load → Told words run sinks status → ForCommand words (λ line. IsLoadFault run run.before line.file (limit_of line.command) status)
load_row words run sinks status at told =
    let cause = told.cause in
    (cause.line, cause.words_are, rw (← told.is) (at_its_load cause.line run told.outcome (ap stage_of told.is ∙ at) cause.due))

late_of : (words : List (List ℕ)) (run : FilesRun) (sinks : SinksRun) (status : Status) → is_late (stage_of status) ≡ true → stage_of status ≢ at_end → (told : Told words run sinks status) → Late told.cause.line run told.outcome
late_of words run sinks status at before_end told = at_its_result told.cause.line run told.outcome (ap (λ (s : Status). is_late (stage_of s)) told.is ∙ at) (λ end. before_end (sym (ap stage_of told.is) ∙ end)) told.cause.due

absent_row : (words : List (List ℕ)) (run : FilesRun) (sinks : SinksRun) (answer : Status) → IsAnswer words run sinks answer → AbsentRow words run answer
absent_row words run sinks answer is same = load_row words run sinks Absent refl (told_of words run sinks answer Absent same (λ other. cc) (λ other. cc) is)

read_fault_row : (words : List (List ℕ)) (run : FilesRun) (sinks : SinksRun) (answer : Status) → IsAnswer words run sinks answer → ReadFaultRow words run answer
read_fault_row words run sinks answer is same = load_row words run sinks ReadFault refl (told_of words run sinks answer ReadFault same (λ other. cc) (λ other. cc) is)

too_long_row : (words : List (List ℕ)) (run : FilesRun) (sinks : SinksRun) (answer : Status) → IsAnswer words run sinks answer → TooLongRow words run answer
too_long_row words run sinks answer is same = load_row words run sinks TooLong refl (told_of words run sinks answer TooLong same (λ other. cc) (λ other. cc) is)

usage_row : (words : List (List ℕ)) (run : FilesRun) (sinks : SinksRun) (answer : Status) → IsAnswer words run sinks answer → UsageRow words answer
usage_row words run sinks answer is = record { only = only; always = λ none. always none is.is_outcome is.is_delivered }
  where
    go : (order : Option CommandLine) → command_line words ≡ order → IsOutcomeFor order run is.outcome → is.outcome.status ≡ Usage → command_line words ≡ None
    go None same due status = same
    go (Some line) same due status = absurd (not_elsewhere line run is.outcome (due_of line.command line.file line.bound line.arguments run is.outcome due) (ap stage_of status))

    only : answer ≡ Usage → command_line words ≡ None
    only usage =
        let written = written_of is.outcome sinks answer (λ fault. cc) is.is_delivered in
        let status : is.outcome.status ≡ Usage = sym written.as_due ∙ usage in
        elim is.is_outcome [
          | inl memory ↦ absurd (let other : is.outcome.status ≡ Memory = ap status_of_outcome memory.0 in cc)
          | inr due ↦ go (command_line words) refl due status
        ]

    always : command_line words ≡ None → IsOutcome words run is.outcome → IsDelivered is.outcome sinks answer → (answer ≡ Usage) ⊎ ((answer ≡ WriteFault) ⊎ ((answer ≡ Memory) × (is_some (first_command words) ≡ true)))
    always none (inl memory) (inl written) = inr (inr (written.as_due ∙ ap status_of_outcome memory.0, memory.1))
    always none (inr due) (inl written) = let usage = rw none at due in inl (written.as_due ∙ ap status_of_outcome usage)
    always none due (inr (inl cut)) = inr (inl cut.as_fault)
    always none due (inr (inr cut)) = inr (inl cut.as_fault)

memory_row : (words : List (List ℕ)) (run : FilesRun) (sinks : SinksRun) (answer : Status) → IsAnswer words run sinks answer → MemoryRow words answer
memory_row words run sinks answer is memory =
    let written = written_of is.outcome sinks answer (λ fault. cc) is.is_delivered in
    let status : is.outcome.status ≡ Memory = sym written.as_due ∙ memory in
    elim is.is_outcome [ inl out ↦ out.1 | inr due ↦ absurd (go (command_line words) due status) ]
  where
    go : (order : Option CommandLine) → IsOutcomeFor order run is.outcome → is.outcome.status ≡ Memory → ⊥
    go None usage status = let other : is.outcome.status ≡ Usage = ap status_of_outcome usage in cc
    go (Some line) due status = not_elsewhere line run is.outcome (due_of line.command line.file line.bound line.arguments run is.outcome due) (ap stage_of status)

-- a write fault that is due is a store's
stored_result : (command : Command) (file : List ℕ) (bound : ℕ) (arguments : List (List ℕ)) (run : FilesRun) (source : Source) (outcome : Outcome) → outcome.status ≡ WriteFault
    → IsResult (record { command = command; file = file; bound = bound; arguments = arguments }) run source outcome → StoreFails run (record { command = command; file = file; bound = bound; arguments = arguments })
stored_result Run file bound arguments run source outcome status is = absurd (let at = stage_of_execution source (arguments_of (record { command = Run; file = file; bound = bound; arguments = arguments })) bound outcome is in let other : stage_of outcome.status ≡ at_store = ap stage_of status in cc)
stored_result Check file bound arguments run source outcome status is = absurd is
stored_result Build file bound arguments run source outcome status (bytes, image, inl (rose, loud, is)) = (refl, rose, loud)
stored_result Build file bound arguments run source outcome status (bytes, image, inr (kept, is)) = absurd (let other : outcome.status ≡ Done = ap status_of_outcome is in cc)
stored_result Dump file bound arguments run source outcome status is = absurd is
stored_result Verify file bound arguments run source outcome status is = absurd is
stored_result Mean file bound arguments run source outcome status is = absurd is

-- what is made of a typed program
abbrev Made : Command → List ℕ → ℕ → List (List ℕ) → ProgramParts → Outcome → Type 0
Made command file bound arguments program outcome = IsMade (record { command = command; file = file; bound = bound; arguments = arguments }) program outcome

not_stored : (end : Option Ending) → meant_status end ≡ WriteFault → ⊥
not_stored None same = cc
not_stored (Some (ending.Returned number)) same = cc
not_stored (Some (ending.Aborted type message)) same = cc
not_stored (Some ending.HeapLimit) same = cc
not_stored (Some ending.DepthLimit) same = cc

stored_made : (command : Command) (file : List ℕ) (bound : ℕ) (arguments : List (List ℕ)) (program : ProgramParts) (outcome : Outcome) → outcome.status ≡ WriteFault → Made command file bound arguments program outcome → ⊥
stored_made Run file bound arguments program outcome status is = is
stored_made Check file bound arguments program outcome status is = let other : outcome.status ≡ Done = ap status_of_outcome is in cc
stored_made Build file bound arguments program outcome status is = is
stored_made Dump file bound arguments program outcome status is = is
stored_made Verify file bound arguments program outcome status is = is
stored_made Mean file bound arguments program outcome status is =
    not_stored (end_of (meaning_of program (arguments_of (record { command = Mean; file = file; bound = bound; arguments = arguments })) bound).finish) (sym (ap status_of_outcome is) ∙ status)

stored_late : (line : CommandLine) (run : FilesRun) (outcome : Outcome) → outcome.status ≡ WriteFault → Late line run outcome → StoreFails run line
stored_late line run outcome status (of_source source accepted is) = stored_result line.command line.file line.bound line.arguments run source outcome status is
stored_late line run outcome status (of_program program types is) = absurd (stored_made line.command line.file line.bound line.arguments program outcome status is)

write_fault_row : (words : List (List ℕ)) (run : FilesRun) (sinks : SinksRun) (answer : Status) → IsAnswer words run sinks answer → WriteFaultRow words run sinks answer
write_fault_row words run sinks answer is fault = elim is.is_delivered [
  | inl written ↦
      let status : is.outcome.status ≡ WriteFault = sym written.as_due ∙ fault in
      let cause = cause_of words run is.outcome (λ at. let other : stage_of is.outcome.status ≡ at_store = ap stage_of status in cc) is.is_outcome in
      let late_is = at_its_result cause.line run is.outcome (ap (λ (s : Status). is_late (stage_of s)) status) (λ end. let other : stage_of is.outcome.status ≡ at_store = ap stage_of status in cc) cause.due in
      inr (cause.line, cause.words_are, stored_late cause.line run is.outcome status late_is)
  | inr cut ↦ elim cut [ inl output ↦ inl (inl output.cause) | inr note ↦ inl (inr note.cause) ]
]

refused_row : (words : List (List ℕ)) (run : FilesRun) (sinks : SinksRun) (answer : Status) → IsAnswer words run sinks answer → RefusedRow words run answer
refused_row words run sinks answer is kind span same =
    let told = told_of words run sinks answer (Refused kind span) same (λ other. cc) (λ other. cc) is in
    (told.cause.line, told.cause.words_are, at_its_compilation told.cause.line run told.outcome kind span told.is told.cause.due)

-- what has ended is an execution
ended_result : (command : Command) (file : List ℕ) (bound : ℕ) (arguments : List (List ℕ)) (run : FilesRun) (source : Source) (outcome : Outcome) (end : Ending) → outcome.status ≡ status_of (Some end) → AcceptedFrom run file source
    → IsResult (record { command = command; file = file; bound = bound; arguments = arguments }) run source outcome
    → EndedFrom command (record { command = command; file = file; bound = bound; arguments = arguments }) run end outcome.output
ended_result Run file bound arguments run source outcome end status accepted (inl (enough, is)) =
    let ran = run_of source (arguments_of (record { command = Run; file = file; bound = bound; arguments = arguments })) program_limits in
    (source, accepted, (enough, same_ending ran.ending end (sym (ap status_of_outcome is) ∙ status), ap output_of_outcome is))
ended_result Run file bound arguments run source outcome end status accepted (inr (few, short, (printed, more, front, is))) = absurd (no_ending outcome StepLimit end status (ap status_of_outcome is) refl)
ended_result Check file bound arguments run source outcome end status accepted is = absurd is
ended_result Build file bound arguments run source outcome end status accepted (bytes, image, inl (rose, loud, is)) = absurd (no_ending outcome WriteFault end status (ap status_of_outcome is) refl)
ended_result Build file bound arguments run source outcome end status accepted (bytes, image, inr (kept, is)) = absurd (no_ending outcome Done end status (ap status_of_outcome is) refl)
ended_result Dump file bound arguments run source outcome end status accepted is = absurd is
ended_result Verify file bound arguments run source outcome end status accepted is = absurd is
ended_result Mean file bound arguments run source outcome end status accepted is = absurd is

meant_ending : (meant_end : Option Ending) (end : Ending) → meant_status meant_end ≡ status_of (Some end) → meant_end ≡ Some end
meant_ending None end same = absurd (let both : None ≡ Some end = ap ending_in same ∙ told_ending end in cc)
meant_ending (Some other) end same = ap Some (same_ending other end same)

ended_made : (command : Command) (file : List ℕ) (bound : ℕ) (arguments : List (List ℕ)) (run : FilesRun) (program : ProgramParts) (outcome : Outcome) (end : Ending) → outcome.status ≡ status_of (Some end) → TypedFrom run file program
    → Made command file bound arguments program outcome → EndedFrom command (record { command = command; file = file; bound = bound; arguments = arguments }) run end outcome.output
ended_made Run file bound arguments run program outcome end status types is = absurd is
ended_made Check file bound arguments run program outcome end status types is = absurd (no_ending outcome Done end status (ap status_of_outcome is) refl)
ended_made Build file bound arguments run program outcome end status types is = absurd is
ended_made Dump file bound arguments run program outcome end status types is = absurd is
ended_made Verify file bound arguments run program outcome end status types is = absurd is
ended_made Mean file bound arguments run program outcome end status types is =
    let run_is = meaning_of program (arguments_of (record { command = Mean; file = file; bound = bound; arguments = arguments })) bound in
    (program, types, meant_ending (end_of run_is.finish) end (sym (ap status_of_outcome is) ∙ status), ap output_of_outcome is)

ended_late : (line : CommandLine) (run : FilesRun) (outcome : Outcome) (end : Ending) → outcome.status ≡ status_of (Some end) → Late line run outcome → EndedFrom line.command line run end outcome.output
ended_late line run outcome end status (of_source source accepted is) = ended_result line.command line.file line.bound line.arguments run source outcome end status accepted is
ended_late line run outcome end status (of_program program types is) = ended_made line.command line.file line.bound line.arguments run program outcome end status types is

ended_row : (words : List (List ℕ)) (run : FilesRun) (sinks : SinksRun) (answer : Status) → IsAnswer words run sinks answer → EndedRow words run sinks answer
ended_row words run sinks answer is end same =
    let status = status_of (Some end) in
    let at = stage_of_end end in
    let told = told_of words run sinks answer status same (λ other. let stage : stage_of status ≡ at_store = ap stage_of other in cc) (λ other. cc) is in
    let late_is = late_of words run sinks status (ap is_late at) (λ other. cc) told in
    let line = told.cause.line in
    (line, told.cause.words_are, (told.outcome.output, ended_late line run told.outcome end told.is late_is, told.written.output))

-- what had not ended is an execution
limited_result : (command : Command) (file : List ℕ) (bound : ℕ) (arguments : List (List ℕ)) (run : FilesRun) (source : Source) (outcome : Outcome) → outcome.status ≡ StepLimit
    → IsResult (record { command = command; file = file; bound = bound; arguments = arguments }) run source outcome
    → (command ≡ Run) × (bound < run_length source (arguments_of (record { command = command; file = file; bound = bound; arguments = arguments })) program_limits) × (bound < longest_run)
limited_result Run file bound arguments run source outcome status (inl (enough, is)) = absurd (not_limited (run_of source (arguments_of (record { command = Run; file = file; bound = bound; arguments = arguments })) program_limits).ending (sym (ap status_of_outcome is) ∙ status))
  where
    not_limited : (end : Ending) → status_of (Some end) ≡ StepLimit → ⊥
    not_limited (ending.Returned number) same = cc
    not_limited (ending.Aborted type message) same = cc
    not_limited ending.HeapLimit same = cc
    not_limited ending.DepthLimit same = cc
limited_result Run file bound arguments run source outcome status (inr (few, short, rest)) = (refl, few, omega (arith, few, short))
limited_result Check file bound arguments run source outcome status is = absurd is
limited_result Build file bound arguments run source outcome status (bytes, image, inl (rose, loud, is)) = absurd (let other : outcome.status ≡ WriteFault = ap status_of_outcome is in cc)
limited_result Build file bound arguments run source outcome status (bytes, image, inr (kept, is)) = absurd (let other : outcome.status ≡ Done = ap status_of_outcome is in cc)
limited_result Dump file bound arguments run source outcome status is = absurd is
limited_result Verify file bound arguments run source outcome status is = absurd is
limited_result Mean file bound arguments run source outcome status is = absurd is

not_cut : (end : Option Ending) → meant_status end ≡ StepLimit → ⊥
not_cut None same = cc
not_cut (Some (ending.Returned number)) same = cc
not_cut (Some (ending.Aborted type message)) same = cc
not_cut (Some ending.HeapLimit) same = cc
not_cut (Some ending.DepthLimit) same = cc

limited_made : (command : Command) (file : List ℕ) (bound : ℕ) (arguments : List (List ℕ)) (program : ProgramParts) (outcome : Outcome) → outcome.status ≡ StepLimit → Made command file bound arguments program outcome → ⊥
limited_made Run file bound arguments program outcome status is = is
limited_made Check file bound arguments program outcome status is = let other : outcome.status ≡ Done = ap status_of_outcome is in cc
limited_made Build file bound arguments program outcome status is = is
limited_made Dump file bound arguments program outcome status is = is
limited_made Verify file bound arguments program outcome status is = is
limited_made Mean file bound arguments program outcome status is =
    not_cut (end_of (meaning_of program (arguments_of (record { command = Mean; file = file; bound = bound; arguments = arguments })) bound).finish) (sym (ap status_of_outcome is) ∙ status)

-- a source whose run has more instructions than it may execute
abbrev Limited : CommandLine → FilesRun → Source → Type 0
Limited line run source = (line.command ≡ Run) × AcceptedFrom run line.file source × (line.bound < run_length source (arguments_of line) program_limits) × (line.bound < longest_run)

limited_late : (line : CommandLine) (run : FilesRun) (outcome : Outcome) → outcome.status ≡ StepLimit → Late line run outcome → (source : Source) × Limited line run source
limited_late line run outcome status (of_source source accepted is) =
    let result = limited_result line.command line.file line.bound line.arguments run source outcome status is in
    (source, (result.0, accepted, result.1, result.2))
limited_late line run outcome status (of_program program types is) = absurd (limited_made line.command line.file line.bound line.arguments program outcome status is)

step_limit_row : (words : List (List ℕ)) (run : FilesRun) (sinks : SinksRun) (answer : Status) → IsAnswer words run sinks answer → StepLimitRow words run answer
step_limit_row words run sinks answer is same =
    let told = told_of words run sinks answer StepLimit same (λ other. cc) (λ other. cc) is in
    let result = limited_late told.cause.line run told.outcome told.is (late_of words run sinks StepLimit refl (λ end. cc) told) in
    (told.cause.line, told.cause.words_are, (result.1.0, result.0, result.1.1, result.1.2, result.1.3))

-- what goes on is the meaning of a program
going_result : (command : Command) (file : List ℕ) (bound : ℕ) (arguments : List (List ℕ)) (run : FilesRun) (source : Source) (outcome : Outcome) → outcome.status ≡ Going
    → IsResult (record { command = command; file = file; bound = bound; arguments = arguments }) run source outcome → ⊥
going_result Run file bound arguments run source outcome status is =
    let at = stage_of_execution source (arguments_of (record { command = Run; file = file; bound = bound; arguments = arguments })) bound outcome is in
    let other : stage_of outcome.status ≡ at_meaning = ap stage_of status in
    cc
going_result Check file bound arguments run source outcome status is = is
going_result Build file bound arguments run source outcome status (bytes, image, inl (rose, loud, is)) = let other : outcome.status ≡ WriteFault = ap status_of_outcome is in cc
going_result Build file bound arguments run source outcome status (bytes, image, inr (kept, is)) = let other : outcome.status ≡ Done = ap status_of_outcome is in cc
going_result Dump file bound arguments run source outcome status is = is
going_result Verify file bound arguments run source outcome status is = is
going_result Mean file bound arguments run source outcome status is = is

meant_going : (end : Option Ending) → meant_status end ≡ Going → end ≡ None
meant_going None same = refl
meant_going (Some (ending.Returned number)) same = cc
meant_going (Some (ending.Aborted type message)) same = cc
meant_going (Some ending.HeapLimit) same = cc
meant_going (Some ending.DepthLimit) same = cc

-- a typed program whose meaning has no end within the turns, and printed this
abbrev GoesOn : CommandLine → FilesRun → ProgramParts → List ℕ → Type 0
GoesOn line run program printed =
    (line.command ≡ Mean) × TypedFrom run line.file program × (end_of (meaning_of program (arguments_of line) line.bound).finish ≡ None) × (printed ≡ (meaning_of program (arguments_of line) line.bound).output)

going_made : (command : Command) (file : List ℕ) (bound : ℕ) (arguments : List (List ℕ)) (run : FilesRun) (program : ProgramParts) (outcome : Outcome) → outcome.status ≡ Going → TypedFrom run file program
    → Made command file bound arguments program outcome → GoesOn (record { command = command; file = file; bound = bound; arguments = arguments }) run program outcome.output
going_made Run file bound arguments run program outcome status types is = absurd is
going_made Check file bound arguments run program outcome status types is = absurd (let other : outcome.status ≡ Done = ap status_of_outcome is in cc)
going_made Build file bound arguments run program outcome status types is = absurd is
going_made Dump file bound arguments run program outcome status types is = absurd is
going_made Verify file bound arguments run program outcome status types is = absurd is
going_made Mean file bound arguments run program outcome status types is =
    let run_is = meaning_of program (arguments_of (record { command = Mean; file = file; bound = bound; arguments = arguments })) bound in
    (refl, types, meant_going (end_of run_is.finish) (sym (ap status_of_outcome is) ∙ status), ap output_of_outcome is)

going_late : (line : CommandLine) (run : FilesRun) (outcome : Outcome) → outcome.status ≡ Going → Late line run outcome → (program : ProgramParts) × GoesOn line run program outcome.output
going_late line run outcome status (of_source source accepted is) = absurd (going_result line.command line.file line.bound line.arguments run source outcome status is)
going_late line run outcome status (of_program program types is) = (program, going_made line.command line.file line.bound line.arguments run program outcome status types is)

going_row : (words : List (List ℕ)) (run : FilesRun) (sinks : SinksRun) (answer : Status) → IsAnswer words run sinks answer → GoingRow words run sinks answer
going_row words run sinks answer is same =
    let told = told_of words run sinks answer Going same (λ other. cc) (λ other. cc) is in
    let goes = going_late told.cause.line run told.outcome told.is (late_of words run sinks Going refl (λ end. cc) told) in
    (told.cause.line, told.cause.words_are, (goes.1.0, goes.0, goes.1.1, goes.1.2, subst (λ (text : List ℕ). Gains sinks.output sinks.output' text) goes.1.3 told.written.output))

-- what was done of a source is no execution
done_result : (command : Command) (file : List ℕ) (bound : ℕ) (arguments : List (List ℕ)) (run : FilesRun) (sinks : SinksRun) (source : Source) (outcome : Outcome) → outcome.status ≡ Done → AcceptedFrom run file source
    → IsResult (record { command = command; file = file; bound = bound; arguments = arguments }) run source outcome → DoneFrom command run sinks file
done_result Run file bound arguments run sinks source outcome status accepted is = absurd (let at = stage_of_execution source (arguments_of (record { command = Run; file = file; bound = bound; arguments = arguments })) bound outcome is in let other : stage_of outcome.status ≡ at_end = ap stage_of status in cc)
done_result Check file bound arguments run sinks source outcome status accepted is = absurd is
done_result Build file bound arguments run sinks source outcome status accepted is = (source, accepted)
done_result Dump file bound arguments run sinks source outcome status accepted is = absurd is
done_result Verify file bound arguments run sinks source outcome status accepted is = absurd is
done_result Mean file bound arguments run sinks source outcome status accepted is = absurd is

not_done : (end : Option Ending) → meant_status end ≡ Done → ⊥
not_done None same = cc
not_done (Some (ending.Returned number)) same = cc
not_done (Some (ending.Aborted type message)) same = cc
not_done (Some ending.HeapLimit) same = cc
not_done (Some ending.DepthLimit) same = cc

done_made : (command : Command) (file : List ℕ) (bound : ℕ) (arguments : List (List ℕ)) (run : FilesRun) (sinks : SinksRun) (program : ProgramParts) (outcome : Outcome) → outcome.status ≡ Done → TypedFrom run file program
    → Made command file bound arguments program outcome → DoneFrom command run sinks file
done_made Run file bound arguments run sinks program outcome status types is = absurd is
done_made Check file bound arguments run sinks program outcome status types is = (program, types)
done_made Build file bound arguments run sinks program outcome status types is = absurd is
done_made Dump file bound arguments run sinks program outcome status types is = absurd is
done_made Verify file bound arguments run sinks program outcome status types is = absurd is
done_made Mean file bound arguments run sinks program outcome status types is =
    absurd (not_done (end_of (meaning_of program (arguments_of (record { command = Mean; file = file; bound = bound; arguments = arguments })) bound).finish) (sym (ap status_of_outcome is) ∙ status))

done_late : (line : CommandLine) (run : FilesRun) (sinks : SinksRun) (outcome : Outcome) → outcome.status ≡ Done → Late line run outcome → DoneFrom line.command run sinks line.file
done_late line run sinks outcome status (of_source source accepted is) = done_result line.command line.file line.bound line.arguments run sinks source outcome status accepted is
done_late line run sinks outcome status (of_program program types is) = done_made line.command line.file line.bound line.arguments run sinks program outcome status types is

-- what was done of a module is its listing or the verifier's word
done_shown : (command : Command) (file : List ℕ) (bound : ℕ) (arguments : List (List ℕ)) (run : FilesRun) (sinks : SinksRun) (m : Module) (outcome : Outcome) → outcome.status ≡ Done → Gains sinks.output sinks.output' outcome.output
    → ModuleFrom run file m → IsShown (record { command = command; file = file; bound = bound; arguments = arguments }) m outcome → DoneFrom command run sinks file
done_shown Run file bound arguments run sinks m outcome status gains held is = absurd is
done_shown Check file bound arguments run sinks m outcome status gains held is = absurd is
done_shown Build file bound arguments run sinks m outcome status gains held is = absurd is
done_shown Dump file bound arguments run sinks m outcome status gains held is =
    (is.0, (m, held, is.1), subst (λ (text : List ℕ). Gains sinks.output sinks.output' text) (ap output_of_outcome is.2) gains)
done_shown Verify file bound arguments run sinks m outcome status gains held (inl broken) = absurd (let other : outcome.status ≡ Unverified broken.0 = ap status_of_outcome broken.2 in cc)
done_shown Verify file bound arguments run sinks m outcome status gains held (inr kept) = (m, held, kept.0)
done_shown Mean file bound arguments run sinks m outcome status gains held is = absurd is

done_from : (line : CommandLine) (run : FilesRun) (sinks : SinksRun) (outcome : Outcome) → outcome.status ≡ Done → Gains sinks.output sinks.output' outcome.output → Due line run outcome → DoneFrom line.command run sinks line.file
done_from line run sinks outcome status gains (compiled reads_it (inl fault)) = absurd (let at : stage_of outcome.status ≡ at_load = stage_of_load run run.before line.file source_limit outcome.status fault.0 in let end : stage_of outcome.status ≡ at_end = ap stage_of status in cc)
done_from line run sinks outcome status gains (compiled reads_it (inr loaded)) =
    done_late line run sinks outcome status (late_from line run outcome loaded.0 (ap (λ (s : Status). is_late (stage_of s)) status) loaded.1 loaded.2 loaded.3)
done_from line run sinks outcome status gains (typed reads_it (inl fault)) = absurd (let at : stage_of outcome.status ≡ at_load = stage_of_load run run.before line.file source_limit outcome.status fault.0 in let end : stage_of outcome.status ≡ at_end = ap stage_of status in cc)
done_from line run sinks outcome status gains (typed reads_it (inr loaded)) =
    done_late line run sinks outcome status (late_typed line run outcome loaded.0 (ap (λ (s : Status). is_late (stage_of s)) status) loaded.1 loaded.2 loaded.3)
done_from line run sinks outcome status gains (shown reads_it (inl fault)) = absurd (let at : stage_of outcome.status ≡ at_load = stage_of_load run run.before line.file image_limit outcome.status fault.0 in let end : stage_of outcome.status ≡ at_end = ap stage_of status in cc)
done_from line run sinks outcome status gains (shown reads_it (inr read)) = elim read.3 [
  | inl none ↦ absurd (let at : stage_of outcome.status ≡ at_image = ap (λ (o : Outcome). stage_of o.status) none.2 in let end : stage_of outcome.status ≡ at_end = ap stage_of status in cc)
  | inr found ↦ done_shown line.command line.file line.bound line.arguments run sinks found.0 outcome status gains (read.0, read.1, read.2, found.1) found.2
]

done_row : (words : List (List ℕ)) (run : FilesRun) (sinks : SinksRun) (answer : Status) → IsAnswer words run sinks answer → DoneRow words run sinks answer
done_row words run sinks answer is same =
    let told = told_of words run sinks answer Done same (λ other. cc) (λ other. cc) is in
    (told.cause.line, told.cause.words_are, done_from told.cause.line run sinks told.outcome told.is told.written.output told.cause.due)

not_image_row : (words : List (List ℕ)) (run : FilesRun) (sinks : SinksRun) (answer : Status) → IsAnswer words run sinks answer → NotImageRow words run answer
not_image_row words run sinks answer is fault same =
    let told = told_of words run sinks answer (NotImage fault) same (λ other. cc) (λ other. cc) is in
    (told.cause.line, told.cause.words_are, at_its_image told.cause.line run told.outcome fault told.is told.cause.due)

unverified_row : (words : List (List ℕ)) (run : FilesRun) (sinks : SinksRun) (answer : Status) → IsAnswer words run sinks answer → UnverifiedRow words run answer
unverified_row words run sinks answer is fault same =
    let told = told_of words run sinks answer (Unverified fault) same (λ other. cc) (λ other. cc) is in
    (told.cause.line, told.cause.words_are, at_its_verifier told.cause.line run told.outcome fault told.is told.cause.due)

pub answer_table : (words : List (List ℕ)) (run : FilesRun) (sinks : SinksRun) (answer : Status) → IsAnswer words run sinks answer → AnswerTable words run sinks answer
answer_table words run sinks answer is = record {
  usage = usage_row words run sinks answer is;
  absent = absent_row words run sinks answer is;
  read_fault = read_fault_row words run sinks answer is;
  write_fault = write_fault_row words run sinks answer is;
  too_long = too_long_row words run sinks answer is;
  refused = refused_row words run sinks answer is;
  not_image = not_image_row words run sinks answer is;
  unverified = unverified_row words run sinks answer is;
  ended = ended_row words run sinks answer is;
  step_limit = step_limit_row words run sinks answer is;
  going = going_row words run sinks answer is;
  done = done_row words run sinks answer is;
  memory = memory_row words run sinks answer is;
}
