use Rattle.std.proofs.Common.{◌≡◌, ◌++◌, take}
use Rattle.std.specs.List.{flat_map}
use Rattle.cc_image.specs.Headers.{item_bytes}
use Rattle.cc_image.proofs.write.write_items.Given as goal

abbrev pub invariant-loop-item : goal.invariant-loop-item
invariant-loop-item l = l.into.items ≡ l.fn.into.items ++ flat_map (item_bytes l.sizes) (take l.item-index l.items)
