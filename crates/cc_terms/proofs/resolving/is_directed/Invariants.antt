use Rattle.std.proofs.Common.{◌≡◌, drop}
use Rattle.cc_terms.specs.Resolving.{is_directed}
use Rattle.cc_terms.proofs.resolving.is_directed.Given as goal

abbrev pub invariant-loop-one : goal.invariant-loop-one
invariant-loop-one l = is_directed (drop l.one-index l.directed) l.at l.path ≡ is_directed l.directed l.at l.path
