use Rattle.std.proofs.Common.{ℕ, ◌≡◌, ◌-◌, ◌^◌, min, drop, map}
use Rattle.cc_template.specs.Counting.{run}
use Rattle.cc_template.specs.Nodes.{joined, each_behind, outer_nodes}
use Rattle.cc_template.proofs.room.Room.+outer.Given as goal

abbrev pub invariant-outers-outers : goal.invariant-outers-outers
invariant-outers-outers l = (number : ℕ) → l.before ≡ min number (2 ^ 64 - 1) → run (joined (each_behind number (map outer_nodes (drop l.outer-index l.outers)))) l.room ≡ run (joined (each_behind number (map outer_nodes l.initial.outers))) l.initial.room
