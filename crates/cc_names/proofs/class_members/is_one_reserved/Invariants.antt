use Rattle.std.proofs.Common.{◌≡◌, drop}
use Rattle.std.specs.List.{list_any}
use Rattle.cc_names.specs.Classes as spec
use Rattle.cc_names.proofs.class_members.is_one_reserved.Given as goal

abbrev pub invariant-loop-name : goal.invariant-loop-name
invariant-loop-name l = list_any (λ name. spec.is_reserved name.name) (drop l.name-index l.names) ≡ list_any (λ name. spec.is_reserved name.name) l.names
