use Rattle.std.proofs.Common.{ℕ, List, ◌++◌, length}
use Rattle.cc_library.specs.Texts.{Decodes}
use Rattle.cc_library.proofs.lines.decoded.Given as goal

-- whatever text the bytes that are left decode to, all bytes decode to the units so far and that text
abbrev pub invariant-loop-rest : goal.invariant-loop-rest
invariant-loop-rest l = (more : List ℕ) → Decodes l.rest more → Decodes l.bytes (l.units.items ++ more)

abbrev pub decreases-loop-rest : goal.decreases-loop-rest
decreases-loop-rest l = length l.rest
