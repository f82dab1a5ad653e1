use Rattle.std.proofs.Common.{◌≡◌, ◌++◌, take}
use Rattle.std.specs.List.{flat_map}
use Rattle.cc_module.specs.Signatures.{type_bytes}
use Rattle.cc_module.proofs.write.write_types.Given as goal

-- what stands before is written
abbrev pub invariant-loop-one : goal.invariant-loop-one
invariant-loop-one l = l.into.items ≡ l.fn.into.items ++ flat_map type_bytes (take l.one-index l.types)
