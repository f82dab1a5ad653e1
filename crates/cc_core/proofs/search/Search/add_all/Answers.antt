use Rattle.std.proofs.Common.{subst, sym, ◌∙◌}
use Rattle.std.proofs.lemmas.List.{take_more}
use Rattle.cc_base.specs.declared.identifiers.ClassId.{ClassId}
use Rattle.cc_core.specs.Search.{IsAdded}
use Rattle.cc_core.proofs.Found.{added-append}
use Rattle.cc_core.proofs.search.Search.add_all.Goals as goal

pub loop-class-preserved : goal.loop-class-preserved
loop-class-preserved c =
    let l = c.loop-class in
    let added = added-append _ _ _ _ _ l.invariant.added c.in_ok-add.ensures.added in
    let no_class : ClassId = record { 0 = 0 } in
    record {
      marked = c.in_ok-add.ensures.marked;
      same_length = c.in_ok-add.ensures.same_length ∙ l.invariant.same_length;
      added = subst (λ row. IsAdded row c.args.self.now.found.items c.add.new.self.found.items) (sym (take_more c.args.row.now l.class-index no_class c.loop-class-test.true)) added;
    }
