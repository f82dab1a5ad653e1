use Rattle.std.proofs.Common.{arith}
use Rattle.std.proofs.lemmas.Option.{slice_get_within}
use Rattle.cc_convert.proofs.Chosen.{best-next, best-kept}
use Rattle.cc_convert.proofs.overload.only_best.Goals as goal
use Rattle.cc_convert.proofs.overload.only_best.Goals.{then-is_unbeaten, else-is_unbeaten}

pub loop-at-preserved : goal.loop-at-preserved
loop-at-preserved c =
    let l = c.loop-at in
    elim c.if-is_unbeaten.branch [
      | then-is_unbeaten w ↦
          let u = w.if-is_unbeaten.ensures in
          rw w.best-is (record {
            viable = u.0;
            only = best-next _ _ _ l.best l.at l.invariant.viable l.invariant.only u.0 u.1;
          })
      | else-is_unbeaten w ↦
          rw w.best-is (record {
            viable = l.invariant.viable;
            only = best-kept _ _ _ l.best l.at l.invariant.viable l.invariant.only w.if-is_unbeaten.ensures;
          })
    ]

pub returns-clause-only : goal.returns-clause-only
returns-clause-only c at v b =
    let within = slice_get_within c.args.candidates.now at v.signature v.is in
    c.loop-at.invariant.only at (omega arith) v b
