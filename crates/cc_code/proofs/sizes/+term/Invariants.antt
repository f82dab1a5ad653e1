use Rattle.std.proofs.Common.{◌≡◌, ◌+◌, drop}
use Rattle.cc_core.specs.Lists.{terms_of}
use Rattle.cc_code.specs.Sizes.{terms_size}
use Rattle.cc_code.proofs.sizes.+term.Given as goal

abbrev pub invariant-terms_size-loop-item : goal.invariant-terms_size-loop-item
invariant-terms_size-loop-item l = l.size + terms_size (terms_of (drop l.item-index l.items)) ≡ terms_size (terms_of l.items)
