-- How the parts of a call make its answer.
use Rattle.std.proofs.Common.{◌≡◌, ℕ, List, [], ◌∷◌, true, refl, inl, inr}
use Rattle.std.specs.Prelude.{Option, Some, None, is_some}
use Rattle.cc_base.specs.Outside.{StreamState, GivesSame}
use Rattle.cc_base.proofs.Streams.{gains_nothing}
use Rattle.cc_words.specs.Words.{CommandLine, command_line, first_command, command_named, line_behind}
use Rattle.cc_words.specs.declared.command.Command.{Command}
use Rattle.cc_words.specs.declared.command.Command.TheVariants.{Run, Check, Build, Dump, Verify, Mean}
use Rattle.cppcli.specs.Answers.{FilesRun, SinksRun, KeepsFiles, IsOutcomeOf, IsDelivered, IsAnswer, stopped}
use Rattle.cppcli.specs.declared.outcome.Outcome.{Outcome}
use Rattle.cppcli.specs.declared.status.Status.{Status}
use Rattle.cppcli.specs.declared.status.Status.TheVariants.{Memory, Usage}

-- files that give the same are kept, whatever the command
pub keeps_same : (line : Option CommandLine) (run : FilesRun) (status : Status) → GivesSame run.before run.after → KeepsFiles line run status
keeps_same None run status same = same
keeps_same (Some line) run status same = by line.command line.file line.bound line.arguments
  where
    by : (command : Command) (file : List ℕ) (bound : ℕ) (arguments : List (List ℕ)) → KeepsFiles (Some (record { command = command; file = file; bound = bound; arguments = arguments })) run status
    by Run file bound arguments = same
    by Check file bound arguments = same
    by Dump file bound arguments = same
    by Verify file bound arguments = same
    by Mean file bound arguments = same
    by Build file bound arguments = (λ name other. same name, λ _ _. same)

-- what a command keeps, as what its words ask for
pub kept_by_line : (words : List (List ℕ)) (run : FilesRun) (line : CommandLine) (status : Status) → Some line ≡ command_line words → KeepsFiles (Some line) run status → KeepsFiles (command_line words) run status
kept_by_line words run line status ordered kept = rw (← ordered) kept

-- a command's outcome was delivered
pub answer_of : (words : List (List ℕ)) (run : FilesRun) (sinks : SinksRun) (answer : Status) (line : CommandLine) (outcome : Outcome) → Some line ≡ command_line words → IsOutcomeOf line run outcome → KeepsFiles (Some line) run outcome.status → IsDelivered outcome sinks answer → IsAnswer words run sinks answer
answer_of words run sinks answer line outcome ordered due kept delivered = record {
  outcome = outcome;
  is_outcome = inr (rw (← ordered) due);
  keeps_files = kept_by_line words run line outcome.status ordered kept;
  is_delivered = delivered;
}

-- where the words are a command, the first of them is one
first_is : (named : Option Command) (words : List (List ℕ)) (line : CommandLine) → Some line ≡ line_behind named words → is_some named ≡ true
first_is None words line same = cc
first_is (Some command) words line same = refl

pub first_of_line : (words : List (List ℕ)) (line : CommandLine) → Some line ≡ command_line words → is_some (first_command words) ≡ true
first_of_line [] line same = cc
first_of_line (word ∷ words) line same = first_is (command_named word) words line same

-- memory ran out before anything was written
pub answer_memory : (words : List (List ℕ)) (run : FilesRun) (output notes : StreamState) (output_takes notes_takes : ℕ → Type 0) → is_some (first_command words) ≡ true → KeepsFiles (command_line words) run Memory
    → IsAnswer words run (record { output = output; output' = output; output_takes = output_takes; notes = notes; notes' = notes; notes_takes = notes_takes }) Memory
answer_memory words run output notes output_takes notes_takes first kept = record {
  outcome = stopped Memory [] [];
  is_outcome = inl (refl, first);
  keeps_files = kept;
  is_delivered = inl (record { as_due = refl; output = gains_nothing output; note = gains_nothing notes });
}

-- the words were no command
pub answer_usage : (words : List (List ℕ)) (run : FilesRun) (sinks : SinksRun) (answer : Status) → None ≡ command_line words → GivesSame run.before run.after → IsDelivered (stopped Usage [] []) sinks answer → IsAnswer words run sinks answer
answer_usage words run sinks answer none same delivered = record {
  outcome = stopped Usage [] [];
  is_outcome = inr (rw (← none) refl);
  keeps_files = rw (← none) same;
  is_delivered = delivered;
}
