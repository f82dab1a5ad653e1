use Rattle.std.proofs.Common.{◌≡◌, ◌++◌, take}
use Rattle.std.specs.List.{flat_map}
use Rattle.cc_module.specs.Heaps.{text_entry}
use Rattle.cc_tables.proofs.user_strings.write_texts.Given as goal

-- what stands before is written
abbrev pub invariant-loop-text : goal.invariant-loop-text
invariant-loop-text l = l.into.items ≡ l.fn.into.items ++ flat_map text_entry (take l.text-index l.texts)
