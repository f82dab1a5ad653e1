use Rattle.std.proofs.Common.{◌≡◌, ap, ◌∙◌, List, map, subst}
use Rattle.std.specs.Result.{IfOk}
use Rattle.cc_operations.specs.Choosing.{Types, signatures_of}
use Rattle.cc_operations.specs.Operations.{Row}
use Rattle.cc_operations.proofs.Rows.{map_seconds}
use Rattle.cc_operations.proofs.calls.console_signatures.Goals as goal

pub returns : goal.returns
returns c =
    subst (λ (types : List Types). IfOk c.signatures_in.result (λ made. made ≡ signatures_of types))
    (map_seconds c.console_rows.result.now (λ row. row.0) (λ row. row.1.now) ∙ ap (λ (l : List Row). map (λ (row : Row). row.1) l) c.console_rows.ensures) c.signatures_in.ensures
