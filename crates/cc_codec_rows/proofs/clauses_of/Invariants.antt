use Rattle.std.specs.List.{AllByRecursion}
use Rattle.cc_cil.specs.Bodies.{HasClass}
use Rattle.cc_codec_rows.proofs.clauses_of.Given as goal

abbrev pub invariant-loop-word : goal.invariant-loop-word
invariant-loop-word l = AllByRecursion HasClass l.clauses
