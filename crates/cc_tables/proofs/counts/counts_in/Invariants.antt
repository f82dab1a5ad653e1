use Rattle.std.proofs.Common.{◌≡◌, ◌≤◌, ◌+◌, ◌*◌, ◌++◌, drop}
use Rattle.cc_tables.specs.Counts.{counts_in}
use Rattle.cc_tables.proofs.counts.counts_in.Given as goal

-- the numbers so far and those of the tables that are left are all
abbrev pub invariant-loop-table : goal.invariant-loop-table
invariant-loop-table l = record {
  all : l.counts.items ++ counts_in l.fn.valid l.place (drop l.table-index l.tables) l.bytes ≡ counts_in l.fn.valid 24 l.tables l.bytes;
  within : l.place ≤ 24 + 4 * l.table-index;
}
