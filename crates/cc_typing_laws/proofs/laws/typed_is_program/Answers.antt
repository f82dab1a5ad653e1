use Rattle.cc_typing_laws.proofs.Programs as programs
use Rattle.cc_typing_laws.proofs.laws.typed_is_program.Goals as goal

pub returns-clause-typed : goal.returns-clause-typed
returns-clause-typed c = programs.typed_is_program

pub returns-clause-answer : goal.returns-clause-answer
returns-clause-answer c = programs.answer_is_program
