use Rattle.std.proofs.Common.{◌≡◌, ◌++◌, take}
use Rattle.cc_layout.specs.Layout.{bytes_of}
use Rattle.cc_layout.proofs.write.write_fields.Given as goal

-- the fields before are written
abbrev pub invariant-loop-field : goal.invariant-loop-field
invariant-loop-field l = l.into.items ≡ l.fn.into.items ++ bytes_of (take l.field-index l.fields)
