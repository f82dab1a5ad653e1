use Rattle.std.proofs.Common.{◌≡◌, ◌++◌, drop, map}
use Rattle.cc_names.specs.LibraryRows.{class_scope_of}
use Rattle.cc_names.proofs.library.add_class_scopes.Given as goal

abbrev pub invariant-loop-row : goal.invariant-loop-row
invariant-loop-row l = l.scopes ++ map (λ row. class_scope_of l.first row.0.now) (drop l.row-index l.rows) ≡ l.initial.scopes ++ map (λ row. class_scope_of l.first row.0.now) l.rows
