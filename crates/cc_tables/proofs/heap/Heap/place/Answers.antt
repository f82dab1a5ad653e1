use Rattle.std.proofs.Common.{◌∙◌, refl, sym}
use Rattle.cc_tables.specs.Numbering.{entry_of}
use Rattle.cc_tables.proofs.Heaps.{not_empty, place_there, texts_there, place_next, texts_next}
use Rattle.cc_tables.proofs.heap.Heap.place.Goals as goal

pub returns-in-Some-clause-place : goal.returns-in-Some-clause-place
returns-in-Some-clause-place c =
    place_there (λ key. key.items) (entry_of c.args.self.now.kind) c.args.self.now.places.entries c.args.text.now c.in-Some.place (not_empty c.args.text.now (sym c.is_empty.ensures ∙ c.if-is_empty.false)) c.requires.heap.places
    (sym c.find.ensures ∙ c.in-Some.is)

pub returns-in-Some-clause-texts : goal.returns-in-Some-clause-texts
returns-in-Some-clause-texts c =
    texts_there (λ key. key.items) c.args.self.now.places.entries c.args.text.now c.in-Some.place (not_empty c.args.text.now (sym c.is_empty.ensures ∙ c.if-is_empty.false)) (sym c.find.ensures ∙ c.in-Some.is)

pub returns-clause-place : goal.returns-clause-place
returns-clause-place c =
    c.in_ok-place.ensures.place
    ∙ place_next (λ key. key.items) (entry_of c.args.self.now.kind) c.args.self.now.places.entries c.args.text.now c.args.self.now.bytes.items _ (not_empty c.args.text.now (sym c.is_empty.ensures ∙ c.if-is_empty.false)) c.requires.heap.bytes refl
    (sym c.find.ensures ∙ c.in_default.is)

pub returns-clause-texts : goal.returns-clause-texts
returns-clause-texts c =
    texts_next (λ key. key.items) c.args.self.now.places.entries c.args.text.now _ (not_empty c.args.text.now (sym c.is_empty.ensures ∙ c.if-is_empty.false)) (sym c.find.ensures ∙ c.in_default.is) c.in_ok-place.ensures.texts
