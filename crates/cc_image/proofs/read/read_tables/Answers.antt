use Rattle.std.proofs.Common.{rules, ◌≡◌, ◌∙◌, Err, refl, sym}
use Rattle.cc_image.specs.declared.fault.ImageFault.{ImageFault}
use Rattle.cc_image.proofs.Outcomes.{of_tables}
use Rattle.cc_image.proofs.read.read_tables.Goals as goal

pub returns-in-Err-clause-fault : goal.returns-in-Err-clause-fault
returns-in-Err-clause-fault c f e n =
    let same : c.tables_error.result ≡ f = search rules in
    let told = of_tables c.in-Err.fault f (sym c.tables_error.ensures ∙ same) n in
    (c.in-Err.fault, rw c.metadata_at.ensures at (c.in-Err.ensures.fault c.in-Err.fault refl told.other), told.is)
