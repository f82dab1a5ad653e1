use Rattle.std.proofs.Common.{◌≡◌, ◌++◌, take}
use Rattle.cc_layout.specs.Layout.{run}
use Rattle.cc_image.proofs.headers.push_run.Given as goal

abbrev pub invariant-loop-byte : goal.invariant-loop-byte
invariant-loop-byte l = l.into.items ≡ l.fn.into.items ++ run (take l.byte-index l.bytes)
