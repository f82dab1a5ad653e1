use Rattle.std.proofs.Common.{ap, ◌∙◌}
use Rattle.cc_machine_next.specs.Running.{Running}
use Rattle.cc_machine_next.proofs.Running.{output_of}
use Rattle.cc_machine_next.proofs.machine.Machine.output.Goals as goal

pub returns : goal.returns
returns c o e =
    let m = c.self.inside in
    c.as_slice.ensures.value ∙ output_of m.code m.limit m.flow m.state o c.self.invariant.ready (ap (λ (r : Running). r.next) c.self.view_is ∙ e)
