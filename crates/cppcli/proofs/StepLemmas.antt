-- What a command comes to, from what its steps gave.
use Rattle.std.proofs.Common.{◌≡◌, ◌≢◌, ◌≤◌, ◌+◌, ◌^◌, refl, inl, inr, ℕ, List, [], length, map, ap, ◌∙◌, sym, subst, arith}
use Rattle.std.specs.Prelude.{Bool, true, false, nat_lt, if◌then◌else◌, Result, Ok, Err, Option, Some, IsErrAnd, IsTrue}
use Rattle.cc_base.specs.Outside.{FilesState, GoesOn, Holds, Rose}
use Rattle.cc_cil.specs.declared.body.Body.{Body}
use Rattle.cc_core.specs.StraightSource.{Source, source_operations}
use Rattle.cc_base.specs.Cells.{arguments_pass}
use Rattle.cc_emit.specs.Program.{image_limit, module_of}
use Rattle.cc_module.specs.declared.module.Module.{Module}
use Rattle.cc_module.specs.Storable.{IsInRange, IsStorable}
use Rattle.cc_image.specs.Reading.{IsFirstFault}
use Rattle.cc_image.specs.declared.fault.ImageFault.{ImageFault}
use Rattle.cc_image.specs.declared.fault.ImageFault.TheVariants as image
use Rattle.cc_listing.specs.Listing.{ListsModule}
use Rattle.cc_image.specs.Images.{IsImage}
use Rattle.cc_verify.specs.Verified.{FirstFault, IsFirstFault as IsFirstRule, IsVerified}
use Rattle.cc_verify.specs.declared.fault.VerifyFault.{VerifyFault}
use Rattle.cc_verify.specs.declared.fault.VerifyFault.TheVariants as verify
use Rattle.cc_core.specs.StraightMeaning.{run_of}
use Rattle.cc_straight.specs.declared.runner.Executed.{Executed}
use Rattle.cc_straight.specs.Executing.{DoesWithin, run_length}
use Rattle.cc_straight.specs.Reading.{Reads}
use Rattle.cc_core.specs.SourceRun.{Meaning}
use Rattle.cc_core.specs.declared.tree.ProgramParts.{ProgramParts}
use Rattle.cc_base.specs.declared.running.Ending.{Ending}
use Rattle.cc_front.specs.Reading.{Types}
use Rattle.cc_mean.specs.Ends.{end_of}
use Rattle.cc_straight.specs.Straight.{RunsAs}
use Rattle.cc_words.specs.declared.command.Command.TheVariants.{Run, Check, Build, Dump, Verify, Mean}
use Rattle.cppcli.specs.Answers.{FilesRun, AfterStore, AfterVerifier, ForSource, IsExecuted, IsModuleOf, IsNoImage, IsOutcomeOf, image_name, longest_run, meaning_of, meant, meant_status, program_limits, source_limit, status_of, stopped, units_of, done, printed}
use Rattle.cppcli.specs.Notes.{note_of}
use Rattle.cc_emit.proofs.Sizes.{image_within}
use Rattle.cppcli.proofs.CodeLemmas.{code_within}
use Rattle.cppcli.specs.Stops.{IsEnd, IsStop, ended_status}
use Rattle.cppcli.specs.declared.outcome.Outcome.{Outcome}
use Rattle.cppcli.specs.declared.outcome.Stop.{Stop}
use Rattle.cppcli.specs.declared.outcome.Stop.TheVariants.{OutOfMemory, With}
use Rattle.cppcli.specs.declared.status.Status.{Status}
use Rattle.cppcli.specs.declared.status.Status.TheVariants.{NotImage, Unverified, WriteFault, StepLimit}

-- a fact of the outcome gives another, however the steps end
end_of_steps : (result : Result Outcome Stop) (P Q : Outcome → Type 0) → ((outcome : Outcome) → P outcome → Q outcome) → IsEnd result P → IsEnd result Q
end_of_steps (Ok outcome) P Q more holds = more outcome holds
end_of_steps (Err OutOfMemory) P Q more holds = holds
end_of_steps (Err (With outcome)) P Q more holds = more outcome holds

abbrev outcome_with : Status → List ℕ → List ℕ → Outcome
outcome_with status output note = record { status = status; output = output; note = note }

-- an outcome with the note of its status
same_outcome : (o : Outcome) (status : Status) (output : List ℕ) → o.status ≡ status → o.output ≡ output → o.note ≡ note_of o.status [] [] → o ≡ outcome_with status output (note_of status [] [])
same_outcome o status output is_status is_output is_note =
    ap (λ (s : Status). outcome_with s o.output o.note) is_status
    ∙ ap (λ (l : List ℕ). outcome_with status l o.note) is_output
    ∙ ap (λ (l : List ℕ). outcome_with status output l) (is_note ∙ ap (λ (s : Status). note_of s [] []) is_status)

no_more_than : (none too_deep : Bool) (count most : ℕ) → count ≤ most → (if none then 0 else if too_deep then 0 else count) ≤ most
no_more_than true too_deep count most within = omega (arith, within)
no_more_than false true count most within = omega (arith, within)
no_more_than false false count most within = within

run_within : (source : Source) (arguments : List (List ℕ)) → length (source_operations source) ≤ longest_run → run_length source arguments program_limits ≤ longest_run
run_within source arguments within = no_more_than (arguments_pass program_limits.cells arguments) (nat_lt program_limits.frames 2) (length (source_operations source)) longest_run within

-- what an execution comes to
pub executed_outcome : (source : Source) (arguments : List (List ℕ)) (steps : ℕ) (executed : Executed) (o : Outcome) → length (source_operations source) ≤ longest_run → DoesWithin executed source arguments program_limits steps
    → o.status ≡ status_of executed.ending → o.output ≡ executed.output → o.note ≡ note_of o.status [] [] → IsExecuted source arguments steps o
executed_outcome source arguments steps executed o within (inl (enough, (ending, output))) is_status is_output is_note =
    inl (enough, same_outcome o (status_of (Some (run_of source arguments program_limits).ending)) (run_of source arguments program_limits).output (is_status ∙ ap status_of ending) (is_output ∙ output) is_note)
executed_outcome source arguments steps executed o within (inr (few, (going, (more, front)))) is_status is_output is_note =
    inr (few, run_within source arguments within, (executed.output, more, front, same_outcome o StepLimit executed.output (is_status ∙ ap status_of going) is_output is_note))

-- a file that was loaded, compiled and executed
pub run_outcome : (run : FilesRun) (file : List ℕ) (bound : ℕ) (arguments : List (List ℕ)) (bytes : List ℕ) (code : Body) (texts : List (List ℕ)) (result : Result Outcome Stop)
    → Holds run.before file bytes → length bytes ≤ source_limit → ForSource bytes (λ source. RunsAs code source) → texts ≡ map units_of arguments
    → IsEnd result (λ outcome. (source : Source) → RunsAs code source → IsExecuted source texts bound outcome)
    → IsEnd result (IsOutcomeOf (record { command = Run; file = file; bound = bound; arguments = arguments }) run)
run_outcome run file bound arguments bytes code texts result held short compiled texts_are executed =
    end_of_steps result (λ outcome. (source : Source) → RunsAs code source → IsExecuted source (map units_of arguments) bound outcome)
    (IsOutcomeOf (record { command = Run; file = file; bound = bound; arguments = arguments }) run)
    (λ outcome does. inr (bytes, held, short, inr (compiled.0, λ source reads. does source (compiled.1 source reads))))
    (subst (λ (t : List (List ℕ)). IsEnd result (λ outcome. (source : Source) → RunsAs code source → IsExecuted source t bound outcome)) texts_are executed)

-- a file that was loaded and typed
pub check_outcome : (run : FilesRun) (file : List ℕ) (bound : ℕ) (arguments : List (List ℕ)) (bytes : List ℕ) (program : ProgramParts)
    → Holds run.before file bytes → length bytes ≤ source_limit → Types bytes program → IsOutcomeOf (record { command = Check; file = file; bound = bound; arguments = arguments }) run done
check_outcome run file bound arguments bytes program held short types = inr (bytes, held, short, inr (program, types, refl))

-- what the execution of a meaning comes to
pub meant_outcome : (run : Meaning) (end : Option Ending) (o : Outcome) → end ≡ end_of run.finish → o.status ≡ meant_status end → o.output ≡ run.output → o.note ≡ note_of o.status [] [] → o ≡ meant run
meant_outcome run end o ends is_status is_output is_note = same_outcome o (meant_status (end_of run.finish)) run.output (is_status ∙ ap meant_status ends) is_output is_note

-- a file that was loaded and typed, and whose meaning was executed
pub mean_outcome : (run : FilesRun) (file : List ℕ) (turns : ℕ) (arguments : List (List ℕ)) (bytes : List ℕ) (program : ProgramParts) (texts : List (List ℕ)) (result : Result Outcome Stop)
    → Holds run.before file bytes → length bytes ≤ source_limit → Types bytes program → texts ≡ map units_of arguments
    → IsEnd result (λ outcome. outcome ≡ meant (meaning_of program texts turns))
    → IsEnd result (IsOutcomeOf (record { command = Mean; file = file; bound = turns; arguments = arguments }) run)
mean_outcome run file turns arguments bytes program texts result held short types texts_are executed =
    end_of_steps result (λ outcome. outcome ≡ meant (meaning_of program (map units_of arguments) turns))
    (IsOutcomeOf (record { command = Mean; file = file; bound = turns; arguments = arguments }) run)
    (λ outcome is. inr (bytes, held, short, inr (program, types, is)))
    (subst (λ (t : List (List ℕ)). IsEnd result (λ outcome. outcome ≡ meant (meaning_of program t turns))) texts_are executed)

-- a file that was loaded, compiled, and whose image was to be stored
pub build_outcome : (run : FilesRun) (file : List ℕ) (bound : ℕ) (arguments : List (List ℕ)) (bytes : List ℕ) (code : Body) (image : List ℕ) (outcome : Outcome)
    → Holds run.before file bytes → length bytes ≤ source_limit → ForSource bytes (λ source. RunsAs code source) → IsImage (module_of code.code) image
    → AfterStore run (image_name file) image outcome (outcome ≡ done) → IsOutcomeOf (record { command = Build; file = file; bound = bound; arguments = arguments }) run outcome
build_outcome run file bound arguments bytes code image outcome held short compiled is_image after =
    inr (bytes, held, short, inr (compiled.0, λ source reads. (image, record { main = code; runs = compiled.1 source reads; is_image = is_image; few = image_within code.code (code_within code source (compiled.1 source reads)) }, after)))

-- what a fault of an image ends with
pub image_stopped : (bytes file : List ℕ) (fault : ImageFault) (stop : Stop) → (fault ≢ image.Memory → IsFirstFault bytes fault)
    → ((m : Module) → IsStorable m → IsInRange m → IsImage m bytes → fault ≡ image.Memory)
    → IsStop stop (λ outcome. (fault ≢ image.Memory) × (outcome ≡ stopped (NotImage fault) file bytes))
    → IsStop stop (λ outcome. (f : ImageFault) × IsNoImage bytes f × (outcome ≡ stopped (NotImage f) file bytes))
image_stopped bytes file fault OutOfMemory first none stop = stop
image_stopped bytes file fault (With outcome) first none stop = (fault, record { first = first stop.0; none = λ m storable range is. stop.0 (none m storable range is) }, stop.1)

-- a file that was loaded, read as an image and listed
pub dump_outcome : (run : FilesRun) (file : List ℕ) (bound : ℕ) (arguments : List (List ℕ)) (bytes : List ℕ) (m : Module) (text : List ℕ)
    → Holds run.before file bytes → length bytes ≤ image_limit → IsModuleOf bytes m → ListsModule m text → IsOutcomeOf (record { command = Dump; file = file; bound = bound; arguments = arguments }) run (printed text)
dump_outcome run file bound arguments bytes m text held short is lists = inr (bytes, held, short, inr (m, is, (text, lists, refl)))

-- what a broken rule ends with
pub rule_stopped : (m : Module) (file : List ℕ) (fault : VerifyFault) (stop : Stop) → IsFirstRule m fault
    → IsStop stop (λ outcome. (fault ≢ verify.Memory) × (outcome ≡ stopped (Unverified fault) file []))
    → IsStop stop (λ outcome. (f : VerifyFault) × FirstFault m (Some f) × (outcome ≡ stopped (Unverified f) file []))
rule_stopped m file fault OutOfMemory first stop = stop
rule_stopped m file verify.Memory (With outcome) first stop = absurd (stop.0 refl)
rule_stopped m file (verify.BadClass rule row) (With outcome) first stop = (verify.BadClass rule row, first, stop.1)
rule_stopped m file (verify.BadCode row at rule) (With outcome) first stop = (verify.BadCode row at rule, first, stop.1)

-- a file that was loaded, read as an image and given to the verifier
pub verify_outcome : (run : FilesRun) (file : List ℕ) (bound : ℕ) (arguments : List (List ℕ)) (bytes : List ℕ) (m : Module) (outcome : Outcome)
    → Holds run.before file bytes → length bytes ≤ image_limit → IsModuleOf bytes m → AfterVerifier m file outcome (outcome ≡ done) → IsOutcomeOf (record { command = Verify; file = file; bound = bound; arguments = arguments }) run outcome
verify_outcome run file bound arguments bytes m outcome held short is after = inr (bytes, held, short, inr (m, is, after))

-- a module that was refused, whatever the memory
pub verify_stopped : (run : FilesRun) (file : List ℕ) (bound : ℕ) (arguments : List (List ℕ)) (bytes : List ℕ) (m : Module) (stop : Stop)
    → Holds run.before file bytes → length bytes ≤ image_limit → IsModuleOf bytes m
    → IsStop stop (λ outcome. (f : VerifyFault) × FirstFault m (Some f) × (outcome ≡ stopped (Unverified f) file []))
    → IsStop stop (IsOutcomeOf (record { command = Verify; file = file; bound = bound; arguments = arguments }) run)
verify_stopped run file bound arguments bytes m OutOfMemory held short is stopped = stopped
verify_stopped run file bound arguments bytes m (With outcome) held short is stopped = verify_outcome run file bound arguments bytes m outcome held short is (inl stopped)

-- what a store did, seen from before the load
module _ (run : FilesRun) (middle : FilesState) (quiet : Type 0) (on : GoesOn run.before middle) (name image : List ℕ) where
  pub store_failed : (outcome : Outcome) → Rose (middle.store_faults name) (run.after.store_faults name) → (run.quiet → quiet) → (¬ quiet) → outcome ≡ stopped WriteFault name [] → AfterStore run name image outcome (outcome ≡ done)
  store_failed outcome rose still loud is =
      let earlier = on.store_faults name in
      inl (omega (arith, rose, earlier), λ q. loud (still q), is)

  pub store_went : (IsTrue (middle.keeps name) → run.after.gives name ≡ Some (Some image)) → AfterStore run name image done (done ≡ done)
  store_went kept = inr (λ keeps. kept (subst IsTrue (sym (on.keeps name)) keeps), refl)

-- a store that failed, whatever its memory
pub build_stopped : (run : FilesRun) (file : List ℕ) (bound : ℕ) (arguments : List (List ℕ)) (bytes : List ℕ) (code : Body) (image : List ℕ) (middle : FilesState) (quiet : Type 0) → GoesOn run.before middle → (stop : Stop)
    → Holds run.before file bytes → length bytes ≤ source_limit → ForSource bytes (λ source. RunsAs code source) → IsImage (module_of code.code) image → (run.quiet → quiet)
    → IsStop stop (λ outcome. Rose (middle.store_faults (image_name file)) (run.after.store_faults (image_name file)) × (¬ quiet) × (outcome ≡ stopped WriteFault (image_name file) []))
    → IsStop stop (IsOutcomeOf (record { command = Build; file = file; bound = bound; arguments = arguments }) run)
build_stopped run file bound arguments bytes code image middle quiet on OutOfMemory held short compiled is_image still failed = failed
build_stopped run file bound arguments bytes code image middle quiet on (With outcome) held short compiled is_image still failed =
    build_outcome run file bound arguments bytes code image outcome held short compiled is_image (store_failed run middle quiet on (image_name file) image outcome failed.0 still failed.1 failed.2)

-- what a store that failed ends with
pub stop_of_fault : (stop : Stop) (name : List ℕ) (R Q : Type 0) → stop ≡ With (stopped WriteFault name []) → R → Q → IsStop stop (λ outcome. R × Q × (outcome ≡ stopped WriteFault name []))
stop_of_fault stop name R Q is rose loud = subst (λ (s : Stop). IsStop s (λ outcome. R × Q × (outcome ≡ stopped WriteFault name []))) (sym is) (rose, loud, refl)

-- steps that end as one of them did
pub end_of_stop : (result : Result Outcome Stop) (stop : Stop) (P : Outcome → Type 0) → IsErrAnd result (λ s. s ≡ stop) → IsStop stop P → IsEnd result P
end_of_stop (Ok outcome) stop P same stopped = absurd same
end_of_stop (Err other) stop P same stopped = subst (λ (s : Stop). IsStop s P) (sym same) stopped

-- a store that failed keeps all files where it was for want of memory
pub store_kept : (result : Result Outcome Stop) (stop : Stop) (name : List ℕ) (R Q S : Type 0) → IsErrAnd result (λ s. s ≡ stop) → IsStop stop (λ outcome. R × Q × (outcome ≡ stopped WriteFault name []))
    → (stop ≡ OutOfMemory → S) → ended_status result ≢ WriteFault → S
store_kept (Ok outcome) stop name R Q S same failed memory other = absurd same
store_kept (Err one) OutOfMemory name R Q S same failed memory other = memory refl
store_kept (Err one) (With outcome) name R Q S same failed memory other = absurd (other (ap (λ (s : Stop). ended_status (Err s)) same ∙ ap (λ (o : Outcome). o.status) failed.2))
