use Rattle.std.proofs.Common.{rules, ◌≡◌, ◌∙◌, ◌+◌, ◌<◌, ◌≤◌, ℕ, List, [], Some, refl, sym, ap, subst, length, arith}
use Rattle.std.specs.Prelude.{slice_get}
use Rattle.std.specs.Str.{bytes_eq}
use Rattle.cc_names.specs.Keys as keys
use Rattle.cc_names.specs.Reaching.{Searched}
use Rattle.cc_names.specs.Spaces.{ways}
use Rattle.cc_names.specs.declared.known.Ways as held
use Rattle.cc_names.specs.declared.reaching.Reached.{Reached}
use Rattle.cc_names.proofs.Leading.{same_leads}
use Rattle.cc_names.proofs.Searching.{begun, skipped, searched_on, arrived, ended, past_end, only_from, added_from}
use Rattle.cc_names.proofs.known.Ways.leads.Goals.{in-None-get, in-Some-get+else-eq-2+in_ok-add-in-Some-get}
use Rattle.cc_names.proofs.known.Ways.leads.Goals as goal

-- what holds of the pairs that were reached, at a turn
abbrev Goes : held.Ways → List ℕ → List ℕ → ℕ → ℕ → Reached → Type 0
Goes one from to count at reached = record { size : length reached.is_used.items ≡ count; searched : Searched (ways one) from to reached.order.items at }

pub returns-then-eq : goal.returns-then-eq
returns-then-eq c = sym (same_leads (ways c.args.self.now) (length (ways c.args.self.now).firsts) c.args.from.now c.args.to.now (sym c.eq.ensures ∙ c.if-eq.true))

pub returns-in_err-reached : goal.returns-in_err-reached
returns-in_err-reached c = search rules

pub returns-in_err-add : goal.returns-in_err-add
returns-in_err-add c = search rules

pub loop-at-init : goal.loop-at-init
loop-at-init c =
    let all = ways c.args.self.now in
    let numbers = keys.places all.firsts c.args.from.now in
    record {
      size = c.in_ok-add.ensures.length ∙ c.in_ok-reached.ensures.length;
      searched =
          begun all c.args.from.now c.args.to.now c.len-count.result c.add.new.self.order.items (omega (arith, c.len-count.ensures))
          (added_from c.places.result.now numbers (length c.in_ok-reached.reached.is_used.items) c.len-count.result c.add.new.self.order.items c.places.ensures c.in_ok-reached.ensures.length c.in_ok-add.ensures.added)
          (only_from c.places.result.now numbers c.in_ok-reached.reached.order.items [] c.add.new.self.order.items c.places.ensures c.in_ok-reached.ensures.order c.in_ok-add.ensures.only);
    }

pub returns-in-None : goal.returns-in-None
returns-in-None c =
    sym (ended (ways c.args.self.now) c.args.from.now c.args.to.now c.loop-at.reached.order.items c.loop-at.at c.loop-at.invariant.searched
    (past_end c.loop-at.reached.order.items c.loop-at.at (sym c.pair_at.ensures ∙ c.in-None.is)) (sym c.eq.ensures ∙ c.if-eq.false))

pub returns-then-eq-2 : goal.returns-then-eq-2
returns-then-eq-2 c =
    let name = c.in-Some-get.name.now in
    sym (arrived (ways c.args.self.now) c.args.from.now c.args.to.now c.loop-at.reached.order.items c.loop-at.at c.in-Some.number c.loop-at.invariant.searched (sym c.pair_at.ensures ∙ c.in-Some.is)
    name (sym c.in-Some-get.ensures.value) (omega (arith, c.loop-at-test.true, c.len-count.ensures))
    (ap (λ (l : List ℕ). bytes_eq l c.args.to.now) (sym c.as_slice.ensures) ∙ sym c.eq-in-Some-get.ensures ∙ c.if-eq-2.true))

pub loop-at-preserved : goal.loop-at-preserved
loop-at-preserved c =
    let all = ways c.args.self.now in
    let order = c.loop-at.reached.order.items in
    let this : slice_get order c.loop-at.at ≡ Some c.in-Some.number = sym c.pair_at.ensures ∙ c.in-Some.is in
    elim c.match-get.branch [
      | in-None-get w ↦ subst (Goes c.args.self.now c.args.from.now c.args.to.now c.len-count.result (c.loop-at.at + 1)) (sym w.reached-is) (record {
        size = c.loop-at.invariant.size;
        searched = skipped all c.args.from.now c.args.to.now order c.loop-at.at c.in-Some.number c.loop-at.invariant.searched this (sym w.in-None-get.ensures.value);
      })
      | in-Some-get+else-eq-2+in_ok-add-in-Some-get w ↦ subst (Goes c.args.self.now c.args.from.now c.args.to.now c.len-count.result (c.loop-at.at + 1)) (sym w.reached-is) (record {
        size = w.in_ok-add-in-Some-get.ensures.length ∙ c.loop-at.invariant.size;
        searched =
            searched_on all c.args.from.now c.args.to.now order c.loop-at.at c.in-Some.number c.loop-at.invariant.searched this w.in-Some-get.name.now (sym w.in-Some-get.ensures.value) w.add-in-Some-get.new.self.order.items c.len-count.result (omega (arith, c.len-count.ensures)) w.in_ok-add-in-Some-get.ensures.kept
            (added_from w.places-in-Some-get.result.now (keys.places all.firsts w.in-Some-get.name.now) (length c.loop-at.reached.is_used.items) c.len-count.result w.add-in-Some-get.new.self.order.items (w.places-in-Some-get.ensures ∙ ap (keys.places all.firsts) w.as_slice-in-Some-get.ensures) c.loop-at.invariant.size w.in_ok-add-in-Some-get.ensures.added)
            (only_from w.places-in-Some-get.result.now (keys.places all.firsts w.in-Some-get.name.now) order order w.add-in-Some-get.new.self.order.items (w.places-in-Some-get.ensures ∙ ap (keys.places all.firsts) w.as_slice-in-Some-get.ensures) refl w.in_ok-add-in-Some-get.ensures.only)
            (ap (λ (l : List ℕ). bytes_eq l c.args.to.now) (sym w.as_slice.ensures) ∙ sym w.eq-in-Some-get.ensures ∙ w.if-eq-2.false);
      })
    ]

pub returns : goal.returns
returns c =
    sym (ended (ways c.args.self.now) c.args.from.now c.args.to.now c.loop-at.reached.order.items c.loop-at.at c.loop-at.invariant.searched
    (omega (arith, c.loop-at.reached.total, c.loop-at.invariant.size, c.loop-at-test.false)) (sym c.eq.ensures ∙ c.if-eq.false))
