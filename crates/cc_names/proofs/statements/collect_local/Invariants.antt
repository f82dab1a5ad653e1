use Rattle.std.proofs.Common.{◌≡◌, drop, map}
use Rattle.cc_names.specs.Parts.{added, in_order}
use Rattle.cc_names.specs.Statements.{variable}
use Rattle.cc_names.proofs.statements.collect_local.Given as goal

abbrev pub invariant-loop-declarator : goal.invariant-loop-declarator
invariant-loop-declarator l =
    added (in_order (map (λ one. variable one.name) (drop l.declarator-index l.declarator-items))) l.around l.declared
    ≡ added (in_order (map (λ one. variable one.name) l.declarator-items)) l.around l.initial.declared
