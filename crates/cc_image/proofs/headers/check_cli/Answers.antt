use Rattle.std.proofs.Common.{rules, ◌≡◌, ◌∙◌, Err, ap}
use Rattle.cc_image.proofs.Fields.{cli_widths}
use Rattle.cc_image.proofs.headers.check_cli.Goals as goal

pub check_fields-requires-clause-widths : goal.check_fields-requires-clause-widths
check_fields-requires-clause-widths c = rw (c.deref.ensures.value, c.in_ok-fields.ensures) (cli_widths c.args.sizes.now)
