-- What a command comes to where the files tell what is there and no load fails.
use Rattle.std.proofs.Common.{◌≡◌, ◌≢◌, inl, inr, ℕ, ◌+◌, ◌≤◌, ◌<◌, List, [], length, take, arith, ap, sym, refl, subst, ◌∙◌, length-take}
use Rattle.std.specs.Prelude.{Option, Some, None}
use Rattle.cc_emit.specs.Program.{image_limit}
use Rattle.cc_core.specs.declared.tree.ProgramParts.{ProgramParts}
use Rattle.cc_cil.proofs.Unique.{spelling_one}
use Rattle.cc_module.specs.declared.module.Module.{Module}
use Rattle.cc_module.proofs.Heads.{one_signature}
use Rattle.cc_verify.specs.Verified.{FirstFault, OneFault}
use Rattle.cc_verify.specs.declared.fault.VerifyFault.{VerifyFault}
use Rattle.cc_verify.proofs.Once.{one_fault_each}
use Rattle.cc_straight.specs.Reading.{execution}
use Rattle.cc_straight.proofs.Readings.{refuses_not_reads}
use Rattle.cc_front.specs.Reading.{Types}
use Rattle.cc_front.proofs.Readings.{one_meaning, refused_has_none}
use Rattle.cc_words.specs.Words.{CommandLine}
use Rattle.cc_words.specs.declared.command.Command.{Command}
use Rattle.cc_words.specs.declared.command.Command.TheVariants.{Run, Check, Build, Dump, Verify, Mean}
use Rattle.cppcli.specs.Answers.{FilesRun, SinksRun, AfterCompile, AfterImage, AfterTyping, AfterVerifier, IsLoadFault, IsDelivered, IsAnswer, arguments_of, done, meaning_limits, meant, source_limit, stopped}
use Rattle.cppcli.specs.Complete.{LoadsWell, BytesComeTo, BytesOf, ComesTo, DoesAll, ImageComesTo, IsJudged, IsMade, IsResult, ModuleComesTo, TypedComesTo}
use Rattle.cppcli.specs.declared.outcome.Outcome.{Outcome}
use Rattle.cppcli.specs.declared.status.Status.{Status}
use Rattle.cppcli.specs.declared.status.Status.TheVariants.{Memory, Absent, ReadFault, TooLong, Unverified}
use Rattle.cppcli.proofs.RowLemmas.{Due, IsShown, compiled, typed, shown, due_of, reads, as_source, as_program, as_image}

-- a load that fails shows that nothing is there, or more than the limit
abbrev Shows : List ℕ → ℕ → Option (List ℕ) → Outcome → Type 0
Shows file limit None outcome = outcome ≡ stopped Absent file []
Shows file limit (Some bytes) outcome = (limit < length bytes) × (outcome ≡ stopped TooLong file [])

longer : (limit : ℕ) (bytes front : List ℕ) → take (length front) bytes ≡ front → length front ≡ limit + 1 → limit < length bytes
longer limit bytes front begins size =
    let same : length (take (length front) bytes) ≡ length front = ap length begins in
    omega (arith, size, length-take (length front) bytes, same)

bytes_of : (command : Command) (line : CommandLine) (run : FilesRun) (bytes : List ℕ) (outcome : Outcome) → reads command ≡ as_source → BytesComeTo line run bytes outcome → BytesOf command line run bytes outcome
bytes_of Run line run bytes outcome is comes = comes
bytes_of Check line run bytes outcome is comes = absurd cc
bytes_of Build line run bytes outcome is comes = comes
bytes_of Dump line run bytes outcome is comes = absurd cc
bytes_of Verify line run bytes outcome is comes = absurd cc
bytes_of Mean line run bytes outcome is comes = absurd cc

typed_of : (command : Command) (line : CommandLine) (run : FilesRun) (bytes : List ℕ) (outcome : Outcome) → reads command ≡ as_program → TypedComesTo line bytes outcome → BytesOf command line run bytes outcome
typed_of Run line run bytes outcome is comes = absurd cc
typed_of Check line run bytes outcome is comes = comes
typed_of Build line run bytes outcome is comes = absurd cc
typed_of Dump line run bytes outcome is comes = absurd cc
typed_of Verify line run bytes outcome is comes = absurd cc
typed_of Mean line run bytes outcome is comes = comes

image_of : (command : Command) (line : CommandLine) (run : FilesRun) (bytes : List ℕ) (outcome : Outcome) → reads command ≡ as_image → ImageComesTo line bytes outcome → BytesOf command line run bytes outcome
image_of Run line run bytes outcome is comes = absurd cc
image_of Check line run bytes outcome is comes = absurd cc
image_of Build line run bytes outcome is comes = absurd cc
image_of Dump line run bytes outcome is comes = comes
image_of Verify line run bytes outcome is comes = comes
image_of Mean line run bytes outcome is comes = absurd cc

-- what is made of one typed program of a text is made of each
made_same : (command : Command) (file : List ℕ) (bound : ℕ) (arguments : List (List ℕ)) (bytes : List ℕ) (one other : ProgramParts) (outcome : Outcome) → Types bytes one → Types bytes other
    → IsMade (record { command = command; file = file; bound = bound; arguments = arguments }) one outcome → IsMade (record { command = command; file = file; bound = bound; arguments = arguments }) other outcome
made_same Run file bound arguments bytes one other outcome types also is = is
made_same Check file bound arguments bytes one other outcome types also is = is
made_same Build file bound arguments bytes one other outcome types also is = is
made_same Dump file bound arguments bytes one other outcome types also is = is
made_same Verify file bound arguments bytes one other outcome types also is = is
made_same Mean file bound arguments bytes one other outcome types also is =
    is ∙ ap meant (one_meaning bytes one other [] (arguments_of (record { command = Mean; file = file; bound = bound; arguments = arguments })) meaning_limits bound types also)

-- a module breaks one rule first, or none
one_fault : OneFault
one_fault = one_fault_each spelling_one one_signature

same_fault : (one other : VerifyFault) → Some one ≡ Some other → one ≡ other
same_fault one other same = cc

some_fault : (fault : VerifyFault) → Some fault ≡ None → ⊥
some_fault fault same = cc

-- the verifier's word, by what it decides
judged : (m : Module) (file : List ℕ) (outcome : Outcome) (next : Type 0) → AfterVerifier m file outcome next → IsJudged m file outcome next
judged m file outcome next (inl broken) = record {
  verified = λ kept. absurd (some_fault broken.0 (one_fault m (Some broken.0) None broken.1 kept));
  broken = λ fault first. broken.2 ∙ ap (λ (f : VerifyFault). stopped (Unverified f) file []) (same_fault broken.0 fault (one_fault m (Some broken.0) (Some fault) broken.1 first));
}
judged m file outcome next (inr kept) = record {
  verified = λ _. kept.1;
  broken = λ fault first. absurd (some_fault fault (one_fault m (Some fault) None first kept.0));
}

module_comes : (command : Command) (file : List ℕ) (bound : ℕ) (arguments : List (List ℕ)) (m : Module) (outcome : Outcome)
    → IsShown (record { command = command; file = file; bound = bound; arguments = arguments }) m outcome → ModuleComesTo (record { command = command; file = file; bound = bound; arguments = arguments }) m outcome
module_comes Run file bound arguments m outcome is = is
module_comes Check file bound arguments m outcome is = is
module_comes Build file bound arguments m outcome is = is
module_comes Dump file bound arguments m outcome is = is
module_comes Verify file bound arguments m outcome is = judged m file outcome (outcome ≡ done) is
module_comes Mean file bound arguments m outcome is = is

module _ (line : CommandLine) (run : FilesRun) (well : LoadsWell run line.file) where
  fault_shows : (limit : ℕ) (there : Option (List ℕ)) (outcome : Outcome) (status : Status) → run.before.gives line.file ≡ Some there → IsLoadFault run run.before line.file limit status → outcome ≡ stopped status line.file [] → Shows line.file limit there outcome
  fault_shows limit None outcome Absent gives fault due = due
  fault_shows limit (Some bytes) outcome Absent gives fault due = absurd (let lacks = rw gives at fault.0 in cc)
  fault_shows limit there outcome ReadFault gives fault due = absurd (elim well [ inl none ↦ none fault.0 | inr quiet ↦ fault.1 quiet ])
  fault_shows limit None outcome TooLong gives fault due = absurd (rw gives at fault.1)
  fault_shows limit (Some bytes) outcome TooLong gives fault due = (longer limit bytes fault.0 (rw gives at fault.1) fault.2, due)
  fault_shows limit there outcome status gives fault due = absurd fault

  too_long_comes : (bytes : List ℕ) (outcome : Outcome) → source_limit < length bytes → outcome ≡ stopped TooLong line.file [] → BytesComeTo line run bytes outcome
  too_long_comes bytes outcome long due = record {
    too_long = λ _. due;
    accepted = λ short. absurd (omega (arith, long, short));
    refused = λ short. absurd (omega (arith, long, short));
  }

  too_long_typed : (bytes : List ℕ) (outcome : Outcome) → source_limit < length bytes → outcome ≡ stopped TooLong line.file [] → TypedComesTo line bytes outcome
  too_long_typed bytes outcome long due = record {
    too_long = λ _. due;
    accepted = λ short. absurd (omega (arith, long, short));
    refused = λ short. absurd (omega (arith, long, short));
  }

  too_long_image : (bytes : List ℕ) (outcome : Outcome) → image_limit < length bytes → outcome ≡ stopped TooLong line.file [] → ImageComesTo line bytes outcome
  too_long_image bytes outcome long due = record {
    too_long = λ _. due;
    read = λ short. absurd (omega (arith, long, short));
    refused = λ short. absurd (omega (arith, long, short));
  }

  compiled_comes : (bytes : List ℕ) (outcome : Outcome) → length bytes ≤ source_limit → AfterCompile line.file bytes outcome (λ source. IsResult line run source outcome) → BytesComeTo line run bytes outcome
  compiled_comes bytes outcome short (inl refused) = record {
    too_long = λ long. absurd (omega (arith, long, short));
    accepted = λ _ source reads. absurd (refuses_not_reads execution bytes refused.0 refused.1 source refused.2 reads);
    refused = λ _ none. refused;
  }
  compiled_comes bytes outcome short (inr accepted) = record {
    too_long = λ long. absurd (omega (arith, long, short));
    accepted = λ _ source reads. accepted.1 source reads;
    refused = λ _ none. absurd (none accepted.0.0 accepted.0.1);
  }

  typed_comes : (bytes : List ℕ) (outcome : Outcome) → length bytes ≤ source_limit → AfterTyping line.file bytes outcome (λ program. IsMade line program outcome) → TypedComesTo line bytes outcome
  typed_comes bytes outcome short (inl refused) = record {
    too_long = λ long. absurd (omega (arith, long, short));
    accepted = λ _ program types. absurd (refused_has_none bytes refused.0 refused.1 program refused.2 types);
    refused = λ _ none. refused;
  }
  typed_comes bytes outcome short (inr accepted) = record {
    too_long = λ long. absurd (omega (arith, long, short));
    accepted = λ _ program types. made_same line.command line.file line.bound line.arguments bytes accepted.0 program outcome accepted.1 types accepted.2;
    refused = λ _ none. absurd (none accepted.0 accepted.1);
  }

  read_comes : (bytes : List ℕ) (outcome : Outcome) → length bytes ≤ image_limit → AfterImage line.file bytes outcome (λ m. IsShown line m outcome) → ImageComesTo line bytes outcome
  read_comes bytes outcome short (inl fault) = record {
    too_long = λ long. absurd (omega (arith, long, short));
    read = λ _ m storable range is. absurd (fault.1.none m storable range is);
    refused = λ _ none. fault;
  }
  read_comes bytes outcome short (inr found) = record {
    too_long = λ long. absurd (omega (arith, long, short));
    read = λ _ m storable range is. module_comes line.command line.file line.bound line.arguments m outcome (subst (λ (x : Module). IsShown line x outcome) (found.1.only m storable range is) found.2);
    refused = λ _ none. absurd (none found.0 found.1.storable found.1.is_image);
  }

  comes_to : (there : Option (List ℕ)) (outcome : Outcome) → run.before.gives line.file ≡ Some there → Due line run outcome → ComesTo line run there outcome
  comes_to None outcome gives (compiled reads_it (inl fault)) = fault_shows source_limit None outcome outcome.status gives fault.0 fault.1
  comes_to (Some bytes) outcome gives (compiled reads_it (inl fault)) =
      let seen = fault_shows source_limit (Some bytes) outcome outcome.status gives fault.0 fault.1 in
      bytes_of line.command line run bytes outcome reads_it (too_long_comes bytes outcome seen.0 seen.1)
  comes_to None outcome gives (compiled reads_it (inr loaded)) = absurd (let holds = rw gives at loaded.1 in cc)
  comes_to (Some bytes) outcome gives (compiled reads_it (inr loaded)) =
      let holds = rw gives at loaded.1 in
      let is : loaded.0 ≡ bytes = cc in
      bytes_of line.command line run bytes outcome reads_it (compiled_comes bytes outcome (rw (← is) loaded.2) (rw is at loaded.3))
  comes_to None outcome gives (typed reads_it (inl fault)) = fault_shows source_limit None outcome outcome.status gives fault.0 fault.1
  comes_to (Some bytes) outcome gives (typed reads_it (inl fault)) =
      let seen = fault_shows source_limit (Some bytes) outcome outcome.status gives fault.0 fault.1 in
      typed_of line.command line run bytes outcome reads_it (too_long_typed bytes outcome seen.0 seen.1)
  comes_to None outcome gives (typed reads_it (inr loaded)) = absurd (let holds = rw gives at loaded.1 in cc)
  comes_to (Some bytes) outcome gives (typed reads_it (inr loaded)) =
      let holds = rw gives at loaded.1 in
      let is : loaded.0 ≡ bytes = cc in
      typed_of line.command line run bytes outcome reads_it (typed_comes bytes outcome (rw (← is) loaded.2) (rw is at loaded.3))
  comes_to None outcome gives (shown reads_it (inl fault)) = fault_shows image_limit None outcome outcome.status gives fault.0 fault.1
  comes_to (Some bytes) outcome gives (shown reads_it (inl fault)) =
      let seen = fault_shows image_limit (Some bytes) outcome outcome.status gives fault.0 fault.1 in
      image_of line.command line run bytes outcome reads_it (too_long_image bytes outcome seen.0 seen.1)
  comes_to None outcome gives (shown reads_it (inr read)) = absurd (let holds = rw gives at read.1 in cc)
  comes_to (Some bytes) outcome gives (shown reads_it (inr read)) =
      let holds = rw gives at read.1 in
      let is : read.0 ≡ bytes = cc in
      image_of line.command line run bytes outcome reads_it (read_comes bytes outcome (rw (← is) read.2) (rw is at read.3))

-- where nothing is to be written, no write fails
memory_of : (outcome : Outcome) (sinks : SinksRun) (answer : Status) → outcome ≡ stopped Memory [] [] → IsDelivered outcome sinks answer → answer ≡ Memory
memory_of outcome sinks answer memory (inl written) = written.as_due ∙ ap (λ (outcome : Outcome). outcome.status) memory
memory_of outcome sinks answer memory (inr (inl cut)) = let nothing = rw memory at cut.output.1 in absurd (omega (arith, nothing))
memory_of outcome sinks answer memory (inr (inr cut)) = let nothing = rw memory at cut.note.1 in absurd (omega (arith, nothing))

pub does_all : (words : List (List ℕ)) (run : FilesRun) (sinks : SinksRun) (answer : Status) → IsAnswer words run sinks answer → DoesAll words run sinks answer
does_all words run sinks answer is line there words_are gives well = elim is.is_outcome [
  | inl memory ↦ inl (memory_of is.outcome sinks answer memory.0 is.is_delivered)
  | inr due ↦ inr (is.outcome, comes_to line run well there is.outcome gives (due_of line.command line.file line.bound line.arguments run is.outcome (rw words_are at due)), is.is_delivered)
]
