use Rattle.std.proofs.Common.{rules, ◌≡◌, ◌∙◌, Err, None, ap, take, arith}
use Rattle.std.proofs.lemmas.List.{take_min}
use Rattle.cc_layout.proofs.Numbers.{AreBytes-each}
use Rattle.cc_image.specs.Headers.{HEADERS}
use Rattle.cc_image.specs.ImageFaults.{fields_fault}
use Rattle.cc_image.proofs.Fields.{header_widths, bounded}
use Rattle.cc_image.proofs.Loops.{located_none}
use Rattle.cc_image.proofs.headers.check_headers.Goals as goal

pub check_fields-requires-clause-widths : goal.check_fields-requires-clause-widths
check_fields-requires-clause-widths c = rw (c.deref.ensures.value, c.in_ok-fields.ensures) (header_widths c.args.sizes.now)

pub returns-in_err-check_fields-clause-fault : goal.returns-in_err-check_fields-clause-fault
returns-in_err-check_fields-clause-fault c f e n =
    let bytes = c.args.bytes.now in
    let same : c.in_err-check_fields.field-0.0 ≡ f = search rules in
    let head : c.split_at.result.0.now ≡ take HEADERS bytes = c.split_at.ensures.front ∙ rw c.min-size.ensures (take_min HEADERS bytes) in
    rw (c.deref.ensures.value, c.in_ok-fields.ensures, head) at (c.in_err-check_fields.ensures.fault f (ap Err same))

pub returns-clause-found : goal.returns-clause-found
returns-clause-found c =
    let bytes = c.args.bytes.now in
    let head : c.split_at.result.0.now ≡ take HEADERS bytes = c.split_at.ensures.front ∙ rw c.min-size.ensures (take_min HEADERS bytes) in
    rw (c.deref.ensures.value, c.in_ok-fields.ensures, head) at c.in_ok-check_fields.ensures.found

pub returns-clause-bounded : goal.returns-clause-bounded
returns-clause-bounded c =
    let bytes = c.args.bytes.now in
    let head : c.split_at.result.0.now ≡ take HEADERS bytes = c.split_at.ensures.front ∙ rw c.min-size.ensures (take_min HEADERS bytes) in
    let fine : fields_fault c.args.sizes.now bytes ≡ None = rw (c.deref.ensures.value, c.in_ok-fields.ensures, head) at c.in_ok-check_fields.ensures.found in
    (bounded c.args.sizes.now bytes (AreBytes-each bytes (λ i. omega (arith, c.type_inv.bytes i))) (located_none _ fine)).0
