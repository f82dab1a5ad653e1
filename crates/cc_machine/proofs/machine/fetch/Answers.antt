use Rattle.std.proofs.Common.{rules, sym, subst, ap, ◌∙◌}
use Rattle.cc_cil.specs.Steps.{Stands}
use Rattle.cc_machine.proofs.Fetch.{fetched}
use Rattle.cc_machine.proofs.machine.fetch.Goals as goal

pub returns : goal.returns
returns c =
    let stands = subst (λ code. Stands code c.args.at c.in-Ok.instruction) (c.as_slice.ensures ∙ ap (λ b. b.code) c.body-body.ensures.same) (c.in-Ok.ensures.found.0, c.in-Ok.ensures.found.1, c.in-Ok.ensures.in_range) in
    fetched c.args.code.now c.args.at c.args.height c.in-Ok.next c.in-Ok.instruction c.in-Some.action c.requires stands (sym c.of.ensures ∙ c.in-Some.is) c.in-Ok.ensures.found.2
