use Rattle.std.proofs.Common.{◌≡◌, length, map}
use Rattle.cc_terminals.specs.Words.{found_in}
use Rattle.cc_terminals.proofs.terminal.reserved_in.Given as goal

abbrev pub invariant-rows : goal.invariant-rows
invariant-rows l = found_in (map (λ row. (row.0.now, row.1)) l.rest) l.word ≡ found_in (map (λ row. (row.0.now, row.1)) l.rows) l.word

abbrev pub decreases-rows : goal.decreases-rows
decreases-rows l = length l.rest
