use Rattle.std.proofs.Common.{◌≡◌, Ok, ap, subst}
use Rattle.std.specs.Prelude.{IfOk}
use Rattle.cc_core.specs.declared.state.State.{State}
use Rattle.cc_core.specs.declared.state.Target.{Target}
use Rattle.cc_core.specs.declared.tree.UpdateResult.{UpdateResult}
use Rattle.cc_core.specs.declared.types.Operator.{Operator}
use Rattle.cc_core.specs.declared.world.Value.{Value}
use Rattle.cc_core.specs.Types.{BareType, bare}
use Rattle.cc_core.specs.Run.{Ran, bind, gives, convert, operate, write_target}
use Rattle.cc_core.specs.Value.{update, updated}
use Rattle.cc_mean.proofs.updates.updated.Goals as goal

-- an update whose target's value is converted
update_on : (type : BareType) (operator : Operator) (common : BareType) (which : UpdateResult) (at : Target) (before u v : Value) (s t : State) → (Ok v, t) ≡ convert type common before s
    → bind (operate common operator v u t) (λ x s2. bind (convert common type x s2) (λ changed s3. bind (write_target at changed s3) (λ stored. gives (updated which stored before)))) ≡ update type operator common which at before u s
update_on type operator common which at before u v s t e =
    ap (λ (r : Ran Value). bind r (λ left s1. bind (operate common operator left u s1) (λ x s2. bind (convert common type x s2) (λ changed s3. bind (write_target at changed s3) (λ stored. gives (updated which stored before)))))) e

pub returns-in-Ok : goal.returns-in-Ok
returns-in-Ok c =
    let e = update_on (bare c.args.of.now) c.args.operator (bare c.args.common.now) c.args.which c.args.target c.args.before c.args.operand c.in-Ok.left c.args.state.now c.args.state.now c.in-Ok.ensures in
    subst (λ (r : Ran Value). IfOk c.combined.result (λ ran. (ran, c.combined.new.state) ≡ r)) e c.combined.ensures
