-- What a command comes to where the files tell what is there and no load fails.
use Rattle.std.specs.Prelude.{◌≡◌, ◌⊎◌, ◌≤◌, ◌<◌, ℕ, List, [], length, Option, Some, None}
use Rattle.cc_base.specs.Outside.{Rose}
use Rattle.cc_base.specs.declared.kind.Kind.{Kind}
use Rattle.cc_base.specs.declared.text.Span.{Span}
use Rattle.cc_core.specs.StraightSource.{Source}
use Rattle.cc_module.specs.declared.module.Module.{Module}
use Rattle.cc_module.specs.Storable.{IsInRange, IsStorable}
use Rattle.cc_image.specs.Images.{IsImage}
use Rattle.cc_image.specs.declared.fault.ImageFault.{ImageFault}
use Rattle.cc_emit.specs.Program.{image_limit}
use Rattle.cc_straight.specs.Reading.{execution, Reads, Refuses}
use Rattle.cc_core.specs.declared.tree.ProgramParts.{ProgramParts}
use Rattle.cc_front.specs.Reading as front
use Rattle.cc_front.specs.Reading.{Types}
use Rattle.cc_verify.specs.Verified.{FirstFault, IsVerified}
use Rattle.cc_verify.specs.declared.fault.VerifyFault.{VerifyFault}
use Rattle.cc_words.specs.Words.{CommandLine, command_line}
use Rattle.cc_words.specs.declared.command.Command.{Command}
use Rattle.cc_words.specs.declared.command.Command.TheVariants.{Run, Check, Build, Dump, Verify, Mean}
use Rattle.cppcli.specs.Answers.{FilesRun, SinksRun, IsBuilt, IsDelivered, IsExecuted, IsListed, IsNoImage, arguments_of, image_name, meaning_of, meant, source_limit, stopped, done}
use Rattle.cppcli.specs.declared.outcome.Outcome.{Outcome}
use Rattle.cppcli.specs.declared.status.Status.{Status}
use Rattle.cppcli.specs.declared.status.Status.TheVariants.{Absent, TooLong, Refused, NotImage, Unverified, Memory}

-- no load of this name has failed in the call: its count has not risen, or no call on the files could fail
abbrev pub LoadsWell : FilesRun → List ℕ → Type 0
LoadsWell run file = (¬ Rose (run.before.load_faults file) (run.after.load_faults file)) ⊎ run.quiet

-- what a command makes of a source that it compiles: its run, or its image; another command makes nothing of it
abbrev pub IsResult : CommandLine → FilesRun → Source → Outcome → Type 0
IsResult line run source outcome = by line.command
  where
    by : Command → Type 0
    by Run = IsExecuted source (arguments_of line) line.bound outcome
    by Check = ⊥
    by Build = IsBuilt run (image_name line.file) source outcome
    by Dump = ⊥
    by Verify = ⊥
    by Mean = ⊥

-- what a command makes of a typed program: nothing, or its meaning
abbrev pub IsMade : CommandLine → ProgramParts → Outcome → Type 0
IsMade line program outcome = by line.command
  where
    by : Command → Type 0
    by Run = ⊥
    by Check = outcome ≡ done
    by Build = ⊥
    by Dump = ⊥
    by Verify = ⊥
    by Mean = outcome ≡ meant (meaning_of program (arguments_of line) line.bound)

-- what the verifier decides: the module is verified and this comes next, or the first rule that it breaks is told; a module is never both
pub record IsJudged (m : Module) (file : List ℕ) (outcome : Outcome) (next : Type 0) : Type 0 where
  pub verified : IsVerified m → next
  pub broken : (fault : VerifyFault) → FirstFault m (Some fault) → outcome ≡ stopped (Unverified fault) file []

-- what a command makes of a module that it reads: its listing, or the word of the verifier
abbrev pub ModuleComesTo : CommandLine → Module → Outcome → Type 0
ModuleComesTo line m outcome = by line.command
  where
    by : Command → Type 0
    by Run = ⊥
    by Check = ⊥
    by Build = ⊥
    by Dump = IsListed m outcome
    by Verify = IsJudged m line.file outcome (outcome ≡ done)
    by Mean = ⊥

-- what the bytes of the command's file come to, where it compiles a source
pub record BytesComeTo (line : CommandLine) (run : FilesRun) (bytes : List ℕ) (outcome : Outcome) : Type 0 where
  pub too_long : source_limit < length bytes → outcome ≡ stopped TooLong line.file []
  pub accepted : length bytes ≤ source_limit → (source : Source) → Reads bytes source → IsResult line run source outcome
  pub refused : length bytes ≤ source_limit → ((source : Source) → Reads bytes source → ⊥) →
      (kind : Kind) × (span : Span) × Refuses execution bytes kind span × (outcome ≡ stopped (Refused kind span) line.file bytes)

-- what they come to where it types a source
pub record TypedComesTo (line : CommandLine) (bytes : List ℕ) (outcome : Outcome) : Type 0 where
  pub too_long : source_limit < length bytes → outcome ≡ stopped TooLong line.file []
  pub accepted : length bytes ≤ source_limit → (program : ProgramParts) → Types bytes program → IsMade line program outcome
  pub refused : length bytes ≤ source_limit → ((program : ProgramParts) → Types bytes program → ⊥) →
      (kind : Kind) × (span : Span) × front.Refuses bytes kind span × (outcome ≡ stopped (Refused kind span) line.file bytes)

-- what the bytes of the command's file come to, where it reads an image
pub record ImageComesTo (line : CommandLine) (bytes : List ℕ) (outcome : Outcome) : Type 0 where
  pub too_long : image_limit < length bytes → outcome ≡ stopped TooLong line.file []
  pub read : length bytes ≤ image_limit → (m : Module) → IsStorable m → IsInRange m → IsImage m bytes → ModuleComesTo line m outcome
  pub refused : length bytes ≤ image_limit → ((m : Module) → IsStorable m → IsImage m bytes → ⊥) →
      (fault : ImageFault) × IsNoImage bytes fault × (outcome ≡ stopped (NotImage fault) line.file bytes)

abbrev pub BytesOf : Command → CommandLine → FilesRun → List ℕ → Outcome → Type 0
BytesOf Run line run bytes outcome = BytesComeTo line run bytes outcome
BytesOf Check line run bytes outcome = TypedComesTo line bytes outcome
BytesOf Build line run bytes outcome = BytesComeTo line run bytes outcome
BytesOf Dump line run bytes outcome = ImageComesTo line bytes outcome
BytesOf Verify line run bytes outcome = ImageComesTo line bytes outcome
BytesOf Mean line run bytes outcome = TypedComesTo line bytes outcome

abbrev pub ComesTo : CommandLine → FilesRun → Option (List ℕ) → Outcome → Type 0
ComesTo line run None outcome = outcome ≡ stopped Absent line.file []
ComesTo line run (Some bytes) outcome = BytesOf line.command line run bytes outcome

-- a command delivers what its file's bytes come to, unless memory runs out
abbrev pub DoesAll : List (List ℕ) → FilesRun → SinksRun → Status → Type 0
DoesAll words run sinks answer =
    (line : CommandLine) (there : Option (List ℕ)) → command_line words ≡ Some line → run.before.gives line.file ≡ Some there → LoadsWell run line.file →
    (answer ≡ Memory) ⊎ ((outcome : Outcome) × ComesTo line run there outcome × IsDelivered outcome sinks answer)
