use Rattle.std.proofs.Common.{◌-◌, take, refl, ap, ◌∙◌}
use Rattle.std.specs.Prelude.{None, Some, slice_get, count_by}
use Rattle.cc_module.specs.Methods.{has_rva, body_count}
use Rattle.cc_verify.proofs.Placed.{body_of_row}
use Rattle.cc_verify.proofs.class_rules.body_at.Goals as goal

pub returns-in-None : goal.returns-in-None
returns-in-None c =
    let m = c.args.«module».now in
    body_of_row m c.args.row (body_count (take (c.args.row - 1) m.methods)) None (c.in-None.ensures.value ∙ ap (slice_get m.methods) c.place_of.ensures) refl

pub returns-in-Some : goal.returns-in-Some
returns-in-Some c =
    let m = c.args.«module».now in
    c.own_body.ensures
    ∙ body_of_row m c.args.row c.count_bodies-before.result (Some c.in-Some.method.now) (c.in-Some.ensures.value ∙ ap (slice_get m.methods) c.place_of.ensures)
    (c.count_bodies-before.ensures.count ∙ ap (count_by has_rva) (c.rows_before.ensures ∙ ap (take (c.args.row - 1)) c.as_slice.ensures))
