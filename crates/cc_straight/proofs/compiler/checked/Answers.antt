use Rattle.std.proofs.Common.{refl, sym, subst}
use Rattle.std.specs.Prelude.{Some, None}
use Rattle.cc_cil.specs.Steps.{Checks}
use Rattle.cc_machine.specs.Checked.{IsFault}
use Rattle.cc_machine.proofs.OneWay.{none_some}
use Rattle.cc_machine.proofs.OneAnswer.{one_answer}
use Rattle.cc_straight.specs.Straight.{greatest_height}
use Rattle.cc_straight.proofs.compiler.checked.Goals as goal

pub unreachable-requires : goal.unreachable-requires
unreachable-requires c =
    let bad = subst (λ fault. IsFault (record { max_stack = 256; locals = 0; code = c.from_vec.result; clauses = c.new.result }) fault) c.in-Bad.is c.in-Err.ensures.1 in
    let here = subst (λ code. Checks code greatest_height 0 0 (Some c.in-Bad.field-0)) c.from_vec.ensures bad in
    none_some None c.in-Bad.field-0 refl (sym (one_answer here c.requires.fine))
