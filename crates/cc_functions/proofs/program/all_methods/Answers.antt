use Rattle.std.proofs.Common.{◌≡◌, ◌+◌, ◌≤◌, ◌^◌, sym, subst, ap, ◌∙◌, arith}
use Rattle.cc_functions.specs.declared.function.Function.{Function}
use Rattle.cc_functions.specs.Fits.{FitsFunction, size_of, total_size}
use Rattle.cc_functions.proofs.Cells.{start_size}
use Rattle.cc_functions.proofs.Storable.{start_fits}
use Rattle.cc_functions.proofs.program.all_methods.Goals as goal

pub methods_of-requires : goal.methods_of-requires
methods_of-requires c =
    let is = c.in_ok-start.ensures in
    let size : size_of c.in_ok-start.start ≡ 82 = ap size_of is ∙ start_size c.args.main in
    let total : total_size c.args.functions.now ≤ 268431360 = c.requires.functions.size in
    record {
      each = c.requires.functions.each;
      start = subst (λ (f : Function). FitsFunction f) (sym is) (start_fits c.args.main);
      size = omega (arith, size, total);
    }
