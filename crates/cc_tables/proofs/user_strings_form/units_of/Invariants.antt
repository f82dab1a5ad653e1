use Rattle.std.proofs.Common.{◌≡◌, ◌++◌, ◌<◌, ◌^◌, length}
use Rattle.std.specs.List.{flat_map, AllByRecursion}
use Rattle.cc_layout.specs.Numbers.{little_endian}
use Rattle.cc_tables.proofs.user_strings_form.units_of.Given as goal

-- the units so far and the bytes that are left
abbrev pub invariant-loop-unit : goal.invariant-loop-unit
invariant-loop-unit l = record {
  parts : flat_map (little_endian 2) l.units.items ++ l.rest ≡ l.fn.pairs;
  below : AllByRecursion (λ unit. unit < 2 ^ 16) l.units.items;
}

abbrev pub decreases-loop-unit : goal.decreases-loop-unit
decreases-loop-unit l = length l.rest
