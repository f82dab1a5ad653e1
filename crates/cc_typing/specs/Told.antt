-- The parts of a program as the code holds them, and what they are without the places of their parts in memory.
use Rattle.std.specs.Prelude.{List, map}
use Rattle.cc_typing.specs.declared.contents.Placed as held
use Rattle.cc_typing.specs.declared.programs.Parts as made
use Rattle.cc_typing_laws.specs.Contents.{Placed}
use Rattle.cc_typing_laws.specs.Functions.{told_body}
use Rattle.cc_typing_laws.specs.Programs.{TypedProgram}

abbrev pub told : held.Placed → Placed
told one = record { path = one.path; function = one.function.now; body = one.body.now }

abbrev pub told_all : List held.Placed → List Placed
told_all all = map told all

abbrev pub told_parts : made.Parts → TypedProgram
told_parts parts = record { classes = parts.classes; bodies = map told_body parts.bodies; main = parts.main }
