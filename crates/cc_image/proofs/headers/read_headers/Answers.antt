use Rattle.std.proofs.Common.{rules, ◌≡◌, ◌∙◌, Err, Some, None, ap}
use Rattle.cc_image.proofs.Loops.{at_fields, at_length, at_cli}
use Rattle.cc_image.proofs.headers.read_headers.Goals as goal

pub returns-in_err-check_headers-clause-fault : goal.returns-in_err-check_headers-clause-fault
returns-in_err-check_headers-clause-fault c f e n =
    let same : c.in_err-check_headers.field-0.0 ≡ f = search rules in
    at_fields c.sizes_at-sizes.result c.args.bytes.now f c.sizes_at-sizes.ensures (c.in_err-check_headers.ensures.fault f (ap Err same) n)

pub returns-in_err-check_length-clause-fault : goal.returns-in_err-check_length-clause-fault
returns-in_err-check_length-clause-fault c f e n =
    let same : c.in_err-check_length.field-0.0 ≡ f = search rules in
    at_length c.sizes_at-sizes.result c.args.bytes.now f c.sizes_at-sizes.ensures c.in_ok-check_headers.ensures.found (c.in_err-check_length.ensures.fault f (ap Err same))

pub returns-in_err-check_cli-clause-fault : goal.returns-in_err-check_cli-clause-fault
returns-in_err-check_cli-clause-fault c f e n =
    let same : c.in_err-check_cli.field-0.0 ≡ f = search rules in
    at_cli c.sizes_at-sizes.result c.args.bytes.now (Some f) c.sizes_at-sizes.ensures c.in_ok-check_headers.ensures.found c.in_ok-check_length.ensures.found (c.in_err-check_cli.ensures.fault f (ap Err same) n)

pub returns-clause-found : goal.returns-clause-found
returns-clause-found c = at_cli c.sizes_at-sizes.result c.args.bytes.now None c.sizes_at-sizes.ensures c.in_ok-check_headers.ensures.found c.in_ok-check_length.ensures.found c.in_ok-check_cli.ensures.found
