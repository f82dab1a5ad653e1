use Rattle.std.proofs.Common.{◌≡◌, ◌∙◌, sym, ap, subst}
use Rattle.std.specs.Prelude.{Err}
use Rattle.cc_base.specs.Outside.{FilesState}
use Rattle.cc_words.specs.declared.command.Command.TheVariants.{Build}
use Rattle.cppcli.specs.Answers.{FilesRun, IsOutcomeOf, image_name, done}
use Rattle.cppcli.specs.declared.outcome.Stop.TheVariants.{OutOfMemory}
use Rattle.cppcli.proofs.CodeLemmas.{code_within}
use Rattle.cppcli.proofs.StepLemmas.{build_outcome, build_stopped, end_of_stop, store_kept, store_went}
use Rattle.cppcli.proofs.commands.build.Goals as goal

pub image_of-requires : goal.image_of-requires
image_of-requires g c = code_within c.in_ok-code.code c.in_ok-code.ensures.0.0 (c.in_ok-code.ensures.1 c.in_ok-code.ensures.0.0 c.in_ok-code.ensures.0.1)

pub returns-in_err-image-clause-outcome : goal.returns-in_err-image-clause-outcome
returns-in_err-image-clause-outcome g c bound arguments = end_of_stop c.from_residual-in_err-image.result OutOfMemory _ c.from_residual-in_err-image.ensures.1 tt

pub returns-in_err-name-clause-outcome : goal.returns-in_err-name-clause-outcome
returns-in_err-name-clause-outcome g c bound arguments = end_of_stop c.from_residual-in_err-name.result OutOfMemory _ c.from_residual-in_err-name.ensures.1 tt

pub returns-in_err-store-clause-outcome : goal.returns-in_err-store-clause-outcome
returns-in_err-store-clause-outcome g c bound arguments =
    let run : FilesRun = record { before = g.F.Files.state c.args.files.now; after = g.F.Files.state c.store.new.files; quiet = g.F.Files.quiet c.args.files.now } in
    let middle : FilesState = g.F.Files.state c.load.new.files in
    let compiled = rw c.deref.ensures.value at c.in_ok-code.ensures in
    let name_is : c.as_str.result.now ≡ image_name c.args.file.now = c.as_str.ensures.value ∙ c.in_ok-name.ensures in
    let failed = rw name_is at c.in_err-store.ensures.store in
    let stopped = build_stopped run c.args.file.now bound arguments c.in_ok-bytes.bytes.items c.in_ok-code.code c.in_ok-image.image.items middle (g.F.Files.quiet c.load.new.files) c.in_ok-bytes.ensures.goes_on c.in_err-store.field-0.0
    c.in_ok-bytes.ensures.load.0 c.in_ok-bytes.ensures.load.1 compiled c.in_ok-image.ensures c.in_ok-bytes.ensures.quiet failed in
    end_of_stop c.from_residual-in_err-store.result c.in_err-store.field-0.0 _ c.from_residual-in_err-store.ensures.1 stopped

pub returns-clause-outcome : goal.returns-clause-outcome
returns-clause-outcome g c bound arguments =
    let run : FilesRun = record { before = g.F.Files.state c.args.files.now; after = g.F.Files.state c.store.new.files; quiet = g.F.Files.quiet c.args.files.now } in
    let middle : FilesState = g.F.Files.state c.load.new.files in
    let compiled = rw c.deref.ensures.value at c.in_ok-code.ensures in
    let name_is : c.as_str.result.now ≡ image_name c.args.file.now = c.as_str.ensures.value ∙ c.in_ok-name.ensures in
    let kept = rw (name_is, c.as_slice.ensures.value) at c.in_ok-store.ensures.store in
    let after = store_went run middle (g.F.Files.quiet c.load.new.files) c.in_ok-bytes.ensures.goes_on (image_name c.args.file.now) c.in_ok-image.image.items kept in
    subst (λ outcome. IsOutcomeOf (record { command = Build; file = c.args.file.now; bound = bound; arguments = arguments }) run outcome) (sym c.done.ensures)
    (build_outcome run c.args.file.now bound arguments c.in_ok-bytes.bytes.items c.in_ok-code.code c.in_ok-image.image.items done c.in_ok-bytes.ensures.load.0 c.in_ok-bytes.ensures.load.1 compiled c.in_ok-image.ensures after)

pub returns-in_err-store-clause-kept : goal.returns-in_err-store-clause-kept
returns-in_err-store-clause-kept g c not_done not_fault =
    store_kept c.from_residual-in_err-store.result c.in_err-store.field-0.0 c.as_str.result.now _ _ _ c.from_residual-in_err-store.ensures.1 c.in_err-store.ensures.store
    (λ e name. c.in_err-store.ensures.memory (ap Err e) name ∙ c.in_ok-bytes.ensures.same name) not_fault
