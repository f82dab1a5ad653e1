use Rattle.cc_names.proofs.same_scope.+same_within.Given as goal

abbrev pub decreases-same_within : goal.decreases-same_within
decreases-same_within l = l.left
