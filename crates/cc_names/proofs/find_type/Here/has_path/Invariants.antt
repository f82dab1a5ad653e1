use Rattle.std.proofs.Common.{◌≡◌, drop}
use Rattle.std.specs.List.{list_any}
use Rattle.cc_names.specs.Outermost as outermost
use Rattle.cc_names.proofs.find_type.Here.has_path.Given as goal

abbrev pub invariant-loop-path : goal.invariant-loop-path
invariant-loop-path l = list_any (λ path. outermost.is_path path l.names) (drop l.path-index l.path-items) ≡ list_any (λ path. outermost.is_path path l.names) l.path-items
