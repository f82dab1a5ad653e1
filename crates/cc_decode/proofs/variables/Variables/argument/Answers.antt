use Rattle.std.proofs.Common.{◌≡◌, ap, ◌∙◌, arith}
use Rattle.std.specs.Prelude.{slice_get}
use Rattle.cc_decode.specs.Scope.{variables_from}
use Rattle.cc_decode.proofs.Placing.{argument_none, argument_some}
use Rattle.cc_decode.proofs.variables.Variables.argument.Goals as goal

pub returns-in-None : goal.returns-in-None
returns-in-None c names h =
    let same : c.from.result ≡ c.args.n = omega arith in
    argument_none 0 names.parameters c.args.n
    (c.in-None.ensures.value ∙ ap (λ l. slice_get l c.from.result) h.arguments ∙ ap (λ k. slice_get (variables_from 0 names.parameters) k) same)

pub returns-in-Some : goal.returns-in-Some
returns-in-Some c names h =
    let same : c.from.result ≡ c.args.n = omega arith in
    argument_some 0 names.parameters c.args.n _
    (c.in-Some.ensures.value ∙ ap (λ l. slice_get l c.from.result) h.arguments ∙ ap (λ k. slice_get (variables_from 0 names.parameters) k) same)
