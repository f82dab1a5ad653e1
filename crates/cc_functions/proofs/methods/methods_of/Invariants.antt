use Rattle.std.proofs.Common.{[], ◌∷◌, ◌++◌, drop}
use Rattle.cc_functions.proofs.Appending.{Part}
use Rattle.cc_functions.proofs.methods.methods_of.Given as goal

-- what stands and the functions that are to come, with `start` behind them, make up the whole
abbrev pub invariant-loop-function : goal.invariant-loop-function
invariant-loop-function l = Part (l.functions ++ l.start ∷ []) (drop l.function-index l.functions ++ l.start ∷ []) l.made.rows l.made.locals l.made.bodies l.made.place
