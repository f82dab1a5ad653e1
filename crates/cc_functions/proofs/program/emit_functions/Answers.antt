use Rattle.std.proofs.Common.{◌≡◌, ◌≤◌, ◌<◌, ◌^◌, length, sym, subst, arith}
use Rattle.std.proofs.lemmas.Result.{IfOk-weaker}
use Rattle.cc_module.specs.declared.module.Module.{Module}
use Rattle.cc_module.specs.Storable.{IsStorable, IsInRange, image_size}
use Rattle.cc_emit.specs.Program.{image_limit}
use Rattle.cc_functions.proofs.Files.{is_storable, is_within, is_in_range}
use Rattle.cc_functions.proofs.Ranges.{few_methods}
use Rattle.cc_functions.proofs.program.emit_functions.Goals as goal

pub module_with-requires : goal.module_with-requires
module_with-requires c =
    let few = few_methods c.args.functions.now in
    let size = c.requires.functions.size in
    let main = c.requires.main in
    record { functions = c.requires.functions; count = omega (arith, few, size); main = omega (arith, few, size, main) }

pub returns-clause-storable : goal.returns-clause-storable
returns-clause-storable c =
    IfOk-weaker c.module_with.result _ _ (λ m is. subst (λ (n : Module). IsStorable n) (sym is) (is_storable c.args.functions.now c.args.main c.requires.functions)) c.module_with.ensures

pub returns-clause-in_range : goal.returns-clause-in_range
returns-clause-in_range c range =
    IfOk-weaker c.module_with.result _ _ (λ m is. subst (λ (n : Module). IsInRange n) (sym is) (is_in_range c.args.functions.now c.args.main c.requires.functions range)) c.module_with.ensures

pub returns-clause-within : goal.returns-clause-within
returns-clause-within c =
    IfOk-weaker c.module_with.result _ _ (λ m is. subst (λ (n : Module). image_size n ≤ image_limit) (sym is) (is_within c.args.functions.now c.args.main c.requires.functions)) c.module_with.ensures
