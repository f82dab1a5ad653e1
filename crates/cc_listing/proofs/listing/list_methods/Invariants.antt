use Rattle.std.proofs.Common.{◌≡◌, ◌++◌, ℕ, List}
use Rattle.cc_listing.specs.Listing.{ListsMethod}
use Rattle.cc_listing.specs.Rows.{GoesTo}
use Rattle.cc_listing.proofs.listing.list_methods.Given as goal

abbrev pub invariant-loop-row : goal.invariant-loop-row
invariant-loop-row l = (front : List ℕ) × (l.into.items ≡ l.initial.into.items ++ front) × GoesTo (ListsMethod l.module) l.first l.row l.past front
