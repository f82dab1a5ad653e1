use Rattle.std.proofs.Common.{◌<◌, ◌^◌, length}
use Rattle.cc_tables.specs.declared.heap.HeapKind.TheVariants.{Names}
use Rattle.cc_tables.proofs.Numbered.{own_heap, names_short, meets_name}
use Rattle.cc_tables.proofs.numbering.Numbering.name.Goals as goal

pub place-requires-clause-heap : goal.place-requires-clause-heap
place-requires-clause-heap c = own_heap Names c.args.self.now.names c.requires.names

pub place-requires-clause-short : goal.place-requires-clause-short
place-requires-clause-short c = names_short c.args.self.now.names (length c.args.text.now < 2 ^ 29) c.requires.names

pub returns : goal.returns
returns c =
    meets_name c.args.text.now c.args.self.now c.slot.new.self c.place.new.self c.in_ok-place.place c.requires c.in_ok-place.ensures.heap c.in_ok-place.ensures.texts c.in_ok-place.ensures.place c.in_ok-slot.ensures.names c.in_ok-slot.ensures.blobs
    c.in_ok-slot.ensures.slots
