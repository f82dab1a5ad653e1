use Rattle.std.proofs.Common.{◌∙◌}
use Rattle.cc_operations.specs.Operations.{console_rows}
use Rattle.cc_operations.proofs.Rows.{made_at}
use Rattle.cc_operations.proofs.calls.console_row.Goals as goal

pub returns : goal.returns
returns c = made_at c.console_rows.result.now (λ row. (row.0, row.1.now)) c.args.at c.copied.result (console_rows c.args.member) (c.copied.ensures ∙ c.at.ensures) c.console_rows.ensures
