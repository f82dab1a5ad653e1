use Rattle.std.proofs.Common.{append_assoc}
use Rattle.cc_listing.proofs.clauses.format_clause.Goals as goal

pub returns : goal.returns
returns c = simp append_assoc c.format.ensures.ok
