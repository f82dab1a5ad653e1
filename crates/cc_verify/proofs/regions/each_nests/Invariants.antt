use Rattle.std.proofs.Common.{◌≡◌, drop}
use Rattle.cc_verify.specs.Regions.{nests, each_clause}
use Rattle.cc_verify.proofs.regions.each_nests.Given as goal

abbrev pub invariant-loop-inner : goal.invariant-loop-inner
invariant-loop-inner l = each_clause (λ d. nests d l.clause) (drop l.inner-index l.before) ≡ each_clause (λ d. nests d l.clause) l.before
