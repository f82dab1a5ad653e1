use Rattle.std.proofs.Common.{Ok, sym, ap, ◌∙◌}
use Rattle.cc_core.specs.declared.tree.ProgramParts.{ProgramParts}
use Rattle.cc_typing.specs.Faults.{refusal}
use Rattle.cc_typing.specs.Told.{told_parts}
use Rattle.cc_typing_laws.specs.Programs as spec
use Rattle.cc_typing.proofs.Going.{gone, gave}
use Rattle.cc_typing.proofs.Telling.{refuses_as_told}
use Rattle.cc_typing.proofs.programs.elaborate.Goals as goal

pub program_of-requires : goal.program_of-requires
program_of-requires c = record { typed = λ choice chooses. sym (gave told_parts _ c.in-Ok.parts _ c.in-Ok.is (c.in_ok-judged.ensures choice chooses)) }

pub returns-in-Ok-clause-ok : goal.returns-in-Ok-clause-ok
returns-in-Ok-clause-ok c = λ choice chooses.
    sym (gave told_parts _ c.in-Ok.parts _ c.in-Ok.is (c.in_ok-judged.ensures choice chooses)) ∙ ap (λ (parts : ProgramParts). Ok (spec.program_bare parts)) (sym c.program_of.ensures)

pub returns-in-Err-clause-refused : goal.returns-in-Err-clause-refused
returns-in-Err-clause-refused c = λ choice chooses.
    refuses_as_told (refusal c.fault_of.result) c.in-Err.refusal (spec.typed_program choice c.args.unit.now) c.fault_of.ensures
    (gone told_parts _ c.in-Err.refusal _ c.in-Err.is (c.in_ok-judged.ensures choice chooses))
