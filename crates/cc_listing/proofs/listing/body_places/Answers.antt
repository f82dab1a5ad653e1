use Rattle.std.proofs.Common.{ℕ, ◌+◌, List, [], ◌∷◌, length, ap, ◌∙◌, length-append}
use Rattle.std.specs.Prelude.{Option}
use Rattle.cc_listing.proofs.Places.{counted, placed}
use Rattle.cc_listing.proofs.listing.body_places.Goals as goal

pub loop-method-preserved : goal.loop-method-preserved
loop-method-preserved c =
    let methods = c.args.methods.now in
    let i = c.loop-method.method-index in
    let method = c.method-item.result in
    let before = c.loop-method.invariant in
    let places = c.loop-method.places.items in
    let added = c.in_ok-push.ensures.items in
    record {
      before = ap (λ (n : ℕ). c.loop-method.before + n) c.from-before.ensures ∙ counted methods i c.loop-method.before method c.loop-method-test.true c.method-item.is before.before;
      count = ap (λ (l : List (Option ℕ)). length l) added ∙ length-append places (c.body_place.result ∷ []) ∙ ap (λ (n : ℕ). n + 1) before.count;
      each = placed methods c.args.bodies i c.loop-method.before method c.body_place.result places c.push.new.self.items before.count before.each c.loop-method-test.true c.method-item.is
          before.before c.body_place.ensures added;
    }
