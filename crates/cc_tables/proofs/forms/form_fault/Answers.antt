use Rattle.std.proofs.Common.{arith}
use Rattle.cc_layout.proofs.Numbers.{AreBytes-each}
use Rattle.cc_tables.specs.Forms.{form_of}
use Rattle.cc_tables.proofs.Forming.{form_known}
use Rattle.cc_tables.proofs.forms.form_fault.Goals as goal

pub returns-clause-form : goal.returns-clause-form
returns-clause-form c =
    form_known (form_of c.args.kind) c.args.stream.now c.args.at _ c.end_fault.result (AreBytes-each c.args.stream.now (λ i. omega (arith, c.type_inv.stream i))) c.entries_end-used.ensures c.end_fault.ensures
