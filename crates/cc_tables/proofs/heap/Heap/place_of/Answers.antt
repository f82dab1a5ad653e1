use Rattle.std.proofs.Common.{rules, ◌≡◌, ◌∙◌, length, sym, arith}
use Rattle.cc_tables.specs.Numbering.{entry_of, heap_texts}
use Rattle.cc_tables.proofs.Heaps.{not_empty, place_there, place_next, place_within}
use Rattle.cc_tables.proofs.heap.Heap.place_of.Goals as goal

pub returns-in-Some-clause-place : goal.returns-in-Some-clause-place
returns-in-Some-clause-place c =
    place_there (λ key. key.items) (entry_of c.args.self.now.kind) c.args.self.now.places.entries c.args.text.now c.in-Some.place (not_empty c.args.text.now (sym c.is_empty.ensures ∙ c.if-is_empty.false)) c.requires.places
    (sym c.find.ensures ∙ c.in-Some.is)

pub returns-in-Some-clause-within : goal.returns-in-Some-clause-within
returns-in-Some-clause-within c =
    let there =
    place_there (λ key. key.items) (entry_of c.args.self.now.kind) c.args.self.now.places.entries c.args.text.now c.in-Some.place (not_empty c.args.text.now (sym c.is_empty.ensures ∙ c.if-is_empty.false)) c.requires.places
    (sym c.find.ensures ∙ c.in-Some.is) in
    omega (arith, there, place_within (entry_of c.args.self.now.kind) (heap_texts c.args.self.now) c.args.text.now c.args.self.now.bytes.items c.requires.bytes)

pub returns-in-None-clause-place : goal.returns-in-None-clause-place
returns-in-None-clause-place c =
    let long : c.len.result ≡ length c.args.self.now.bytes.items = search rules in
    place_next (λ key. key.items) (entry_of c.args.self.now.kind) c.args.self.now.places.entries c.args.text.now c.args.self.now.bytes.items _ (not_empty c.args.text.now (sym c.is_empty.ensures ∙ c.if-is_empty.false)) c.requires.bytes long
    (sym c.find.ensures ∙ c.in-None.is)
