use Rattle.std.proofs.Common.{◌≡◌, ◌++◌, take}
use Rattle.cc_typing.proofs.classes.text_of.Given as goal

abbrev pub invariant-loop-byte : goal.invariant-loop-byte
invariant-loop-byte l = l.text ≡ take l.byte-index l.first

abbrev pub invariant-loop-more : goal.invariant-loop-more
invariant-loop-more l = l.text ≡ l.fn.first ++ take l.more-index l.second
