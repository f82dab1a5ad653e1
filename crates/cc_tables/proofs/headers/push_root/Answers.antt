use Rattle.std.proofs.Common.{refl}
use Rattle.cc_layout.specs.declared.field.Field.{Field}
use Rattle.cc_module.specs.Metadata.{root}
use Rattle.cc_tables.proofs.Fields.{pushed_four}
use Rattle.cc_tables.proofs.headers.push_root.Goals as goal

pub returns : goal.returns
returns c =
    pushed_four Field _ _ _ _ _ _ _ _ _ root c.in_ok-push_run.ensures (rw (c.number.ensures, c.number-2.ensures, c.number-3.ensures, c.number-4.ensures) at c.in_ok-extend_from_slice.ensures.items) c.in_ok-push_run-2.ensures
    (rw (c.number-5.ensures, c.number-6.ensures) at c.in_ok-extend_from_slice-2.ensures.items) refl
