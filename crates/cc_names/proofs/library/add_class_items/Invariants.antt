use Rattle.std.proofs.Common.{◌≡◌, ◌++◌, drop, map}
use Rattle.std.specs.List.{enumerate_from}
use Rattle.cc_names.specs.LibraryRows.{class_item_of}
use Rattle.cc_names.proofs.library.add_class_items.Given as goal

abbrev pub invariant-loop-class : goal.invariant-loop-class
invariant-loop-class l = l.items ++ map (λ row. class_item_of l.first row.0 row.1.0.now row.1.2 row.1.3.now) (enumerate_from l.class (drop l.class l.rows)) ≡ l.initial.items ++ map (λ row. class_item_of l.first row.0 row.1.0.now row.1.2 row.1.3.now) (enumerate_from 0 l.rows)
