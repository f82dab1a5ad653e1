use Rattle.std.proofs.Common.{◌≡◌, drop, map}
use Rattle.std.specs.List.{list_any}
use Rattle.cc_template.specs.Expansion.{has_template}
use Rattle.cc_template.proofs.templates.+templates.Given as goal

abbrev pub invariant-have_template-loop-outer : goal.invariant-have_template-loop-outer
invariant-have_template-loop-outer l = list_any (λ has. has) (map has_template (drop l.outer-index l.outers)) ≡ list_any (λ has. has) (map has_template l.outers)
