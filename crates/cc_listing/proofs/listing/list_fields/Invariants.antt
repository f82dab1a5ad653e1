use Rattle.std.proofs.Common.{◌≡◌, ◌++◌, ℕ, List}
use Rattle.cc_listing.specs.Listing.{ListsField}
use Rattle.cc_listing.specs.Rows.{GoesTo}
use Rattle.cc_listing.proofs.listing.list_fields.Given as goal

abbrev pub invariant-loop-row : goal.invariant-loop-row
invariant-loop-row l = (front : List ℕ) × (l.into.items ≡ l.initial.into.items ++ front) × GoesTo (ListsField l.fields) l.first l.row l.past front
