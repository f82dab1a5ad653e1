use Rattle.std.proofs.Common.{◌≡◌, drop}
use Rattle.cc_terms.specs.Resolving.{numbered}
use Rattle.cc_terms.proofs.resolving.numbered.Given as goal

abbrev pub invariant-loop-one : goal.invariant-loop-one
invariant-loop-one l = numbered l.number (drop l.one-index l.functions) ≡ numbered l.number l.functions
