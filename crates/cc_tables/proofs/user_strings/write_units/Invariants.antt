use Rattle.std.proofs.Common.{◌≡◌, ◌++◌, take}
use Rattle.std.specs.List.{flat_map}
use Rattle.cc_layout.specs.Numbers.{little_endian}
use Rattle.cc_tables.proofs.user_strings.write_units.Given as goal

-- what stands before is written
abbrev pub invariant-loop-unit : goal.invariant-loop-unit
invariant-loop-unit l = l.into.items ≡ l.fn.into.items ++ flat_map (little_endian 2) (take l.unit-index l.units)
