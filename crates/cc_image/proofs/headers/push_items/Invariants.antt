use Rattle.std.proofs.Common.{◌≡◌, ◌++◌, map, take}
use Rattle.cc_image.specs.Headers.{field_of}
use Rattle.cc_image.proofs.headers.push_items.Given as goal

abbrev pub invariant-loop-item : goal.invariant-loop-item
invariant-loop-item l = l.into.items ≡ l.fn.into.items ++ map (field_of l.sizes) (take l.item-index l.items)
