use Rattle.std.proofs.Common.{length}
use Rattle.cc_listing.specs.Listing.{ListsType}
use Rattle.cc_listing.specs.Rows.{GoesTo}
use Rattle.cc_listing.proofs.listing.list.Given as goal

abbrev pub invariant-loop-at : goal.invariant-loop-at
invariant-loop-at l = GoesTo (ListsType l.module) 0 l.at (length l.module.type_defs) l.text.items
