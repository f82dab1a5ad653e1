use Rattle.std.proofs.Common.{length}
use Rattle.cc_layout.specs.Layout.{bytes_of}
use Rattle.cc_layout.proofs.Numbers.{on_err, extends_first}
use Rattle.cc_cil.specs.Bodies.{fat_header}
use Rattle.cc_cil.proofs.write.write_fat.Goals as goal

pub returns-in_err-write_fields-clause-err : goal.returns-in_err-write_fields-clause-err
returns-in_err-write_fields-clause-err c =
    let body = c.args.body.now in
    on_err c.from_residual.result _ (extends_first _ _ (bytes_of (fat_header c.args.flags body.max_stack (length body.code) body.locals)) body.code (rw (c.fat_header.ensures, c.len-size.ensures) at c.in_err-write_fields.ensures.err))
