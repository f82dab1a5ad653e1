use Rattle.std.proofs.Common.{take, map}
use Rattle.std.specs.List.{AllByRecursion}
use Rattle.cc_module.specs.Signatures.{IsSignature}
use Rattle.cc_tables.proofs.signatures.check_rows.Given as goal

-- those before are signatures
abbrev pub invariant-loop-row : goal.invariant-loop-row
invariant-loop-row g l = AllByRecursion IsSignature (map g.R.Signed.signature (take l.row-index l.rows))
