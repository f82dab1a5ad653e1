use Rattle.std.proofs.Common.{◌∙◌, subst}
use Rattle.cc_convert.specs.Overloads.{BeatsAt}
use Rattle.cc_convert.proofs.overload.choose.Goals as goal

pub returns-in-Some-first_unbeaten-2 : goal.returns-in-Some-first_unbeaten-2
returns-in-Some-first_unbeaten-2 c =
    let unbeaten = c.in-Some-first_unbeaten-2.ensures.some in
    record {
      viable = c.in-Some.ensures.some.0;
      none_before = c.in-Some.ensures.some.1;
      unbeaten = c.in-Some-first_unbeaten.ensures.some;
      no_best = λ one v b.
          let same = c.only_best-best.ensures.only one v b in
          unbeaten.unbeaten (subst (λ k. BeatsAt c.args.classes.now c.args.given.now c.args.candidates.now k c.in-Some-first_unbeaten-2.field-0) same (b _ unbeaten.viable (λ e. unbeaten.another (e ∙ same))));
    }
