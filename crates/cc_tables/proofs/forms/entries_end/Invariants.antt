use Rattle.std.proofs.Common.{length}
use Rattle.cc_tables.specs.Forms.{form_of}
use Rattle.cc_tables.proofs.Forming.{Met}
use Rattle.cc_tables.proofs.forms.entries_end.Given as goal

-- the entries so far
abbrev pub invariant-loop-after : goal.invariant-loop-after
invariant-loop-after l = Met (form_of l.kind) l.stream l.rest

abbrev pub decreases-loop-after : goal.decreases-loop-after
decreases-loop-after l = length l.rest
