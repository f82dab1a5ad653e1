use Rattle.std.proofs.Common.{◌≡◌, take}
use Rattle.std.specs.List.{flat_map}
use Rattle.cc_core.specs.Classes.{field_part}
use Rattle.cc_core.proofs.named.field_parts.Given as goal

abbrev pub invariant-loop-field : goal.invariant-loop-field
invariant-loop-field l = l.row.items ≡ flat_map field_part (take l.field-index l.fields)
