use Rattle.std.proofs.Common.{◌≡◌, ◌++◌, drop, map}
use Rattle.cc_typing_laws.specs.Contents.{joined, directed_of}
use Rattle.cc_typing.proofs.contents.+directed.Given as goal

abbrev pub invariant-add_all_directed-loop-outer : goal.invariant-add_all_directed-loop-outer
invariant-add_all_directed-loop-outer l = l.all ++ joined (map directed_of (drop l.outer-index l.outers)) ≡ l.initial.all ++ joined (map directed_of l.outers)
