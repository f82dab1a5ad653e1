use Rattle.std.proofs.Common.{rules, ◌≡◌, length, refl}
use Rattle.cc_tables.specs.Numbering.{entry_of}
use Rattle.cc_tables.proofs.Heaps.{added, texts_added, places_added, bytes_added}
use Rattle.cc_tables.proofs.heap.Heap.add.Goals as goal

pub returns-clause-heap : goal.returns-clause-heap
returns-clause-heap c =
    let entry = entry_of c.args.self.now.kind in
    let last = added (λ key. key.items) entry _ (λ a b. refl) c.args.self.now.places.entries c.insert.new.self.entries c.in_ok-key.key c.len-place.result c.args.text.now c.in_ok-key.ensures.items c.requires.absent c.in_ok-insert.ensures.entries in
    let texts = texts_added (λ key. key.items) entry c.args.self.now.places.entries c.insert.new.self.entries c.in_ok-key.key c.len-place.result c.args.text.now c.in_ok-key.ensures.items last in
    let place : c.len-place.result ≡ length c.args.self.now.bytes.items = search rules in
    record {
      is = refl;
      bytes = bytes_added entry _ _ c.args.text.now c.args.self.now.bytes.items c.write_entry.new.into.items c.requires.heap.bytes texts c.in_ok-write_entry.ensures;
      places = places_added (λ key. key.items) entry c.args.self.now.places.entries c.insert.new.self.entries c.in_ok-key.key c.len-place.result c.args.self.now.bytes.items c.requires.heap.places c.requires.heap.bytes place last;
    }

pub returns-clause-texts : goal.returns-clause-texts
returns-clause-texts c =
    let entry = entry_of c.args.self.now.kind in
    let last = added (λ key. key.items) entry _ (λ a b. refl) c.args.self.now.places.entries c.insert.new.self.entries c.in_ok-key.key c.len-place.result c.args.text.now c.in_ok-key.ensures.items c.requires.absent c.in_ok-insert.ensures.entries in
    texts_added (λ key. key.items) entry c.args.self.now.places.entries c.insert.new.self.entries c.in_ok-key.key c.len-place.result c.args.text.now c.in_ok-key.ensures.items last
