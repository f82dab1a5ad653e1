use Rattle.cc_core.specs.Typed.{program_parts}
use Rattle.cc_typing_laws.proofs.Programs.{answer_is_program}
use Rattle.cc_typing.proofs.programs.program_of.Goals as goal

-- what typing makes of a source is a program
pub new-requires : goal.new-requires
new-requires c = answer_is_program c.args.unit.now (program_parts c.args.parts.classes c.args.parts.bodies c.args.parts.main) c.requires.typed
