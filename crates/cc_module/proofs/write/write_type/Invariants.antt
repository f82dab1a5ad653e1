use Rattle.std.proofs.Common.{◌≡◌, ◌++◌, take}
use Rattle.std.specs.List.{flat_map}
use Rattle.cc_module.specs.Signatures.{element_bytes}
use Rattle.cc_module.proofs.write.write_type.Given as goal

-- what stands before is written
abbrev pub invariant-loop-element : goal.invariant-loop-element
invariant-loop-element l = l.into.items ≡ l.fn.into.items ++ flat_map element_bytes (take l.element-index l.one.elements)
