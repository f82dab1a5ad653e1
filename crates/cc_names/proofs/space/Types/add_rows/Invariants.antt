use Rattle.std.proofs.Common.{◌≡◌, drop, map}
use Rattle.cc_names.specs.Types as types
use Rattle.cc_names.specs.Spaces as spaces
use Rattle.cc_names.proofs.space.Types.add_rows.Given as goal

abbrev pub invariant-loop-row : goal.invariant-loop-row
invariant-loop-row l = spaces.with_types l.self (map (λ row. record { name = row.0.now; type_ = types.library_type row.1 }) (drop l.row-index l.rows)) ≡ spaces.with_types l.initial.self (map (λ row. record { name = row.0.now; type_ = types.library_type row.1 }) l.rows)
