use Rattle.std.proofs.Common.{◌≡◌, [], drop}
use Rattle.cc_terms.specs.Resolving.{path_from}
use Rattle.cc_typing.proofs.contents.path_of.Given as goal

abbrev pub invariant-loop-name : goal.invariant-loop-name
invariant-loop-name l = path_from l.path.items (drop l.name-index l.names) ≡ path_from [] l.names
