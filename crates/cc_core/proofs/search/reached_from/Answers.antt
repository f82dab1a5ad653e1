use Rattle.std.proofs.Common.{◌<◌, ◌≤◌, Some, length, refl, arith, subst, sym, ap, ◌∙◌}
use Rattle.std.proofs.lemmas.Option.{slice_get_read}
use Rattle.cc_base.specs.declared.identifiers.ClassId.{ClassId}
use Rattle.cc_core.specs.Search.{IsAdded, AreReached}
use Rattle.cc_core.proofs.Found.{search-start, search-step, search-end}
use Rattle.cc_core.proofs.search.reached_from.Goals as goal

pub loop-at-init : goal.loop-at-init
loop-at-init c =
    let added = c.in_ok-add_all.ensures.added in
    let row = slice_get_read c.args.steps.now (length c.args.steps.now) c.args.from.0 c.index-steps-from.result refl c.requires.within c.index-steps-from.is in
    record {
      marked = c.in_ok-add_all.ensures.marked;
      same_length = c.in_ok-add_all.ensures.same_length ∙ c.in_ok-vec.ensures.len;
      searched = search-start c.args.steps.now c.args.from c.as_slice.result.now c.add_all.new.self.found.items
          (row ∙ ap (λ r. Some r) (sym c.as_slice.ensures))
          (subst (λ old. IsAdded c.as_slice.result.now old c.add_all.new.self.found.items) c.new.ensures.items added);
    }

pub loop-at-preserved : goal.loop-at-preserved
loop-at-preserved c =
    let l = c.loop-at in
    let class = c.index-class.result.now in
    let found = l.search.found in
    let within : l.at < length found.items = omega (arith, found.ok, c.len.ensures, c.loop-at-test.true) in
    let marked = l.invariant.marked.within l.at class within in
    let same = ap (λ (id : ClassId). id.0) c.index-class.ensures in
    let in_table : class.0 < length c.args.steps.now = omega (arith, marked, same, l.search.marks.ok, l.invariant.same_length) in
    let row = slice_get_read c.args.steps.now (length c.args.steps.now) class.0 c.index-steps-class.result refl in_table c.index-steps-class.is in
    record {
      marked = c.in_ok-add_all-2.ensures.marked;
      same_length = c.in_ok-add_all-2.ensures.same_length ∙ l.invariant.same_length;
      searched = search-step c.args.steps.now c.args.from found.items c.add_all-in-loop-at.new.self.found.items c.as_slice-in-loop-at.result.now l.at class l.invariant.searched within c.index-class.ensures
          (row ∙ ap (λ r. Some r) (sym c.as_slice-in-loop-at.ensures))
          c.in_ok-add_all-2.ensures.added;
    }

pub returns : goal.returns
returns c =
    let found = c.loop-at.search.found in
    let past : length found.items ≤ c.loop-at.at = omega (arith, found.ok, c.len.ensures, c.loop-at-test.false) in
    subst (AreReached c.args.steps.now c.args.from) (sym c.from_vec.ensures) (search-end c.args.steps.now c.args.from found.items c.loop-at.at c.loop-at.invariant.searched past)
