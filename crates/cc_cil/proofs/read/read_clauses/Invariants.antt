use Rattle.std.proofs.Common.{◌≡◌, ◌++◌, ◌+◌, ◌-◌, length, drop, None}
use Rattle.std.specs.List.{flat_map}
use Rattle.cc_layout.specs.Layout.{fault_of, width_of}
use Rattle.cc_cil.specs.Bodies.{clause_layout}
use Rattle.cc_cil.specs.BodyFaults.{clauses_in}
use Rattle.cc_cil.proofs.read.read_clauses.Given as goal

abbrev pub invariant-loop : goal.invariant-loop
invariant-loop l = record {
  whole : clauses_in l.small l.count l.bytes ≡ l.clauses ++ clauses_in l.small (l.count - l.counter) l.rest;
  fine : fault_of l.fn.at (flat_map (clause_layout l.small) l.clauses) l.bytes ≡ None;
  left : l.rest ≡ drop (width_of (flat_map (clause_layout l.small) l.clauses)) l.bytes;
  reached : l.place ≡ l.fn.at + width_of (flat_map (clause_layout l.small) l.clauses);
  end : l.place + length l.rest ≡ l.fn.at + length l.bytes;
}
