use Rattle.std.proofs.Common.{◌≡◌, ◌≤◌, sym, subst, arith}
use Rattle.std.proofs.lemmas.Result.{IfOk-weaker}
use Rattle.cc_layout.specs.Numbers.{AreBytes}
use Rattle.cc_layout.proofs.Numbers.{AreBytes-each}
use Rattle.cc_module.specs.declared.module.Module.{Module}
use Rattle.cc_module.specs.Storable.{IsStorable, IsInRange, image_size}
use Rattle.cc_emit.specs.Program.{module_of, image_limit}
use Rattle.cc_emit.proofs.Ranges.{in_range}
use Rattle.cc_emit.proofs.Sizes.{image_within}
use Rattle.cc_emit.proofs.Storable.{storable}
use Rattle.cc_emit.proofs.program.emit.Goals as goal

pub returns-clause-storable : goal.returns-clause-storable
returns-clause-storable c =
    IfOk-weaker c.module_with.result _ _ (λ m is. subst (λ (n : Module). IsStorable n) (sym is) (storable c.args.code.now c.requires)) c.module_with.ensures

pub returns-clause-in_range : goal.returns-clause-in_range
returns-clause-in_range c =
    let bytes : AreBytes c.args.code.now = AreBytes-each c.args.code.now (λ i. omega (arith, c.type_inv.code i)) in
    IfOk-weaker c.module_with.result _ _ (λ m is. subst (λ (n : Module). IsInRange n) (sym is) (in_range c.args.code.now c.requires bytes)) c.module_with.ensures

pub returns-clause-within : goal.returns-clause-within
returns-clause-within c =
    IfOk-weaker c.module_with.result _ _ (λ m is. subst (λ (n : Module). image_size n ≤ image_limit) (sym is) (image_within c.args.code.now c.requires)) c.module_with.ensures
