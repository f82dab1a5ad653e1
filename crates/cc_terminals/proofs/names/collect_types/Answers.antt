use Rattle.std.proofs.Common.{map, ap}
use Rattle.cc_tree.specs.CollectedNames.{declared_types}
use Rattle.cc_tree.specs.declared.word.TheConstants.{LIBRARY_TYPES}
use Rattle.std.specs.List.{list_any}
use Rattle.std.specs.Str.{bytes_eq}
use Rattle.cc_terminals.proofs.Collected.{both_put}
use Rattle.cc_terminals.proofs.names.collect_types.Goals as goal

pub returns : goal.returns
returns c = λ word. both_put (map (λ name. name.now) LIBRARY_TYPES) (declared_types c.args.tokens.now) word _ _ _
    (ap (list_any (λ key. bytes_eq word key.now)) c.new-types.ensures.empty) (c.in_ok-put_declared.ensures word) (c.in_ok-put_all.ensures word)
