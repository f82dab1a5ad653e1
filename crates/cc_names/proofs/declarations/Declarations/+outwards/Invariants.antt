use Rattle.cc_names.proofs.declarations.Declarations.+outwards.Given as goal

abbrev pub decreases-outwards : goal.decreases-outwards
decreases-outwards l = l.left
