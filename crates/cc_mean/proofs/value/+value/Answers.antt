use Rattle.std.proofs.Common.{◌≡◌, Ok, arith, subst}
use Rattle.std.specs.Prelude.{IfOk}
use Rattle.std.proofs.lemmas.Grind.{common_steps}
use Rattle.cc_core.specs.declared.world.Value.{Value}
use Rattle.cc_core.specs.Bare.{term_of}
use Rattle.cc_core.specs.Run.{Ran}
use Rattle.cc_core.specs.Value.{value_of}
use Rattle.cc_mean.proofs.Rows.{call_on, library_on, let_on}
use Rattle.cc_mean.proofs.value.+value.Goals as goal

pub value-returns-in-Call : goal.value-returns-in-Call
value-returns-in-Call g t c =
    let e = call_on c.args.code.now.classes.now (g.C.Caller.calls c.args.caller.now c.args.code.now.classes.now c.args.code.now.bodies.now c.args.code.now.turns) c.args.state.now c.args.e.now _ _ _ _ c.in-Call.is in
    grind (arith, common_steps, e)

pub value-returns-in-Library : goal.value-returns-in-Library
value-returns-in-Library g t c =
    let e = library_on c.args.code.now.classes.now (g.C.Caller.calls c.args.caller.now c.args.code.now.classes.now c.args.code.now.bodies.now c.args.code.now.turns) c.args.state.now c.args.e.now _ _ _ c.in-Library.is in
    grind (arith, common_steps, e)

-- the arm of `Let`
pub value-returns-in-Ok-9 : goal.value-returns-in-Ok-9
value-returns-in-Ok-9 g t c =
    let w = c.args.code.now.classes.now in
    let k = g.C.Caller.calls c.args.caller.now w c.args.code.now.bodies.now c.args.code.now.turns in
    let first : c.deref-in-Let.result.now ≡ c.in-Let.a.value = cc in
    let second : c.deref-in-Ok-9.result.now ≡ c.in-Let.b.value = cc in
    let gave : (Ok c.in-Ok-9.v, c.value-in-Let.new.state) ≡ value_of w k (term_of c.deref-in-Let.result.now) c.begin.new.state = rw c.in-Ok-9.is at c.in_ok-v-in-Let.ensures in
    let e = let_on w k c.args.state.now c.args.e.now _ c.in-Let.local c.in-Let.a c.in-Let.b c.deref-in-Let.result.now c.deref-in-Ok-9.result.now c.in-Ok-9.v c.begin.new.state c.value-in-Let.new.state c.in-Let.is first second c.in_ok-begin.ensures gave in
    subst (λ (r : Ran Value). IfOk c.binding.result (λ ran. (ran, c.binding.new.state) ≡ r)) e c.binding.ensures
