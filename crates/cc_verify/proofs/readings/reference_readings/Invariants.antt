use Rattle.std.proofs.Common.{List, ℕ, take}
use Rattle.cc_module.specs.declared.rows.MemberRefRow.{MemberRefRow}
use Rattle.cc_verify.specs.Types.{Zip, IsReading}
use Rattle.cc_verify.proofs.readings.reference_readings.Given as goal

abbrev pub invariant-loop-row : goal.invariant-loop-row
invariant-loop-row l = Zip (λ row s. IsReading row.signature s) (take l.row-index l.rows) l.read
