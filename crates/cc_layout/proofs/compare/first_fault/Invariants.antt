use Rattle.std.proofs.Common.{◌≡◌, ◌+◌, length, drop}
use Rattle.cc_layout.specs.Layout.{fault_of}
use Rattle.cc_layout.proofs.compare.first_fault.Given as goal

abbrev pub invariant-loop-field : goal.invariant-loop-field
invariant-loop-field l = (fault_of l.fn.at l.fields l.bytes ≡ fault_of l.place (drop l.field-index l.fields) l.rest) × (l.place + length l.rest ≡ l.fn.at + length l.bytes)
