use Rattle.std.proofs.Common.{length}
use Rattle.cc_tables.proofs.UserStrings.{MetStrings}
use Rattle.cc_tables.proofs.user_strings_form.split_user_strings.Given as goal

-- the user strings so far
abbrev pub invariant-loop-texts : goal.invariant-loop-texts
invariant-loop-texts l = MetStrings l.fn.stream l.rest l.texts.items

abbrev pub decreases-loop-texts : goal.decreases-loop-texts
decreases-loop-texts l = length l.rest
