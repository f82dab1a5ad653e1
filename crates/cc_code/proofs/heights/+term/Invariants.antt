use Rattle.std.proofs.Common.{◌≡◌, ◌+◌, drop}
use Rattle.std.specs.Prelude.{max}
use Rattle.cc_core.specs.Lists.{terms_of}
use Rattle.cc_code.specs.Heights.{terms_height}
use Rattle.cc_code.proofs.heights.+term.Given as goal

abbrev pub invariant-terms_height-loop-item : goal.invariant-terms_height-loop-item
invariant-terms_height-loop-item l = max l.height (terms_height (terms_of (drop l.item-index l.items)) + l.below) ≡ terms_height (terms_of l.items)
