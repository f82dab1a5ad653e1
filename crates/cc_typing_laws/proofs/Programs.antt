-- Typed programs over the library's classes are programs.
use Rattle.std.proofs.Common.{refl}
use Rattle.cc_names.specs.Directives.{directives}
use Rattle.cc_names.specs.Library as names
use Rattle.cc_typing_laws.specs.Contents.{functions}
use Rattle.cc_typing_laws.specs.Finding.{finds_in}
use Rattle.cc_typing_laws.specs.Laws.{TypedIsProgram, AnswerIsProgram}
use Rattle.cc_typing_laws.specs.Programs.{library_classes, classes_with}
use Rattle.cc_typing_laws.proofs.Choices.{some_choice}
use Rattle.cc_typing_laws.proofs.Program as program

pub typed_is_program : TypedIsProgram
typed_is_program pick tree parts chooses e =
    program.typed_is_program library_classes refl refl pick
    (finds_in (names.declared tree).scopes (names.declared tree).items (directives (names.declared tree).scopes (names.declared tree).items tree)) (names.declared tree).items tree chooses parts e

pub answer_is_program : AnswerIsProgram
answer_is_program tree parts each = let choice = some_choice (classes_with library_classes (functions tree)) in typed_is_program choice.0 tree parts choice.1 (each choice.0 choice.1)
