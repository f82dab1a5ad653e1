use Rattle.std.proofs.Common.{sym, ap, ◌∙◌, drop}
use Rattle.std.proofs.lemmas.List.{drop_all}
use Rattle.cc_verify.proofs.Passing.{passing_start, passing_end, passing_off, passing_broken, passing_on, next_is}
use Rattle.cc_verify.proofs.pass.pass_over.Goals as goal

pub loop-place-init : goal.loop-place-init
loop-place-init c = passing_start c.args.method.now c.args.end _ c.requires.table c.requires.room

pub returns-in-Broken : goal.returns-in-Broken
returns-in-Broken c =
    let m = c.args.method.now in
    let i = c.loop-place.place-index in
    passing_broken m c.args.end c.args.starts.now c.loop-place.known.items c.loop-place.fallen i _ c.requires.starts c.requires.long c.loop-place.invariant (next_is m c.args.places.now i _ c.requires.same c.loop-place-test.true) c.in-Broken.rule c.loop-place.known.items (rw c.in-Broken.is at c.in_ok-outcome.ensures)

pub loop-place-preserved : goal.loop-place-preserved
loop-place-preserved c =
    let m = c.args.method.now in
    let i = c.loop-place.place-index in
    passing_on m c.args.end c.args.starts.now c.loop-place.known.items c.loop-place.fallen i _ c.requires.starts c.requires.long c.loop-place.invariant (next_is m c.args.places.now i _ c.requires.same c.loop-place-test.true) c.in-Kept.next _ (rw c.in-Kept.is at c.in_ok-outcome.ensures)

pub returns-then-end-method : goal.returns-then-end-method
returns-then-end-method c =
    let m = c.args.method.now in
    passing_end m c.args.end _ _ c.loop-place.place-index c.loop-place.invariant (ap (drop c.loop-place.place-index) (sym c.requires.same) ∙ drop_all c.loop-place.place-index c.args.places.now c.loop-place-test.false) c.if-end-method.true

pub returns : goal.returns
returns c =
    let m = c.args.method.now in
    passing_off m c.args.end _ _ c.loop-place.place-index c.loop-place.invariant (ap (drop c.loop-place.place-index) (sym c.requires.same) ∙ drop_all c.loop-place.place-index c.args.places.now c.loop-place-test.false) c.if-end-method.false
