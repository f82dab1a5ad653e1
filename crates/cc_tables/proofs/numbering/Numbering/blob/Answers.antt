use Rattle.cc_tables.specs.declared.heap.HeapKind.TheVariants.{Blobs}
use Rattle.cc_tables.proofs.Numbered.{own_heap, meets_signature, meets_blob}
use Rattle.cc_tables.proofs.numbering.Numbering.blob.Goals as goal

pub place-requires-clause-heap : goal.place-requires-clause-heap
place-requires-clause-heap c = own_heap Blobs c.args.self.now.blobs c.requires.whole.blobs

pub returns-clause-signature : goal.returns-clause-signature
returns-clause-signature c =
    meets_signature c.args.text.now c.args.self.now c.slot.new.self c.place.new.self c.in_ok-place.place c.requires.whole c.in_ok-place.ensures.heap c.in_ok-place.ensures.texts c.in_ok-place.ensures.place c.in_ok-slot.ensures.names
    c.in_ok-slot.ensures.blobs c.in_ok-slot.ensures.slots

pub returns-clause-blob : goal.returns-clause-blob
returns-clause-blob c =
    meets_blob c.args.text.now c.args.self.now c.slot.new.self
    (meets_signature c.args.text.now c.args.self.now c.slot.new.self c.place.new.self c.in_ok-place.place c.requires.whole c.in_ok-place.ensures.heap c.in_ok-place.ensures.texts c.in_ok-place.ensures.place c.in_ok-slot.ensures.names
    c.in_ok-slot.ensures.blobs c.in_ok-slot.ensures.slots)
