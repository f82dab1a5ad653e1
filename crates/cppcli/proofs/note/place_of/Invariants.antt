use Rattle.std.proofs.Common.{◌≡◌, ◌≤◌, ◌+◌, drop}
use Rattle.cppcli.specs.Notes.{place_behind}
use Rattle.cppcli.proofs.note.place_of.Given as goal

abbrev pub invariant-loop-byte : goal.invariant-loop-byte
invariant-loop-byte l = record {
  rest : place_behind (record { line = l.line; column = l.column }) (drop l.byte-index l.byte-items) ≡ place_behind (record { line = 1; column = 1 }) l.byte-items;
  line : l.line ≤ l.byte-index + 1;
  column : l.column ≤ l.byte-index + 1;
}
