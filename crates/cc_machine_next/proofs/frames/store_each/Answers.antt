use Rattle.std.proofs.Common.{◌≡◌, ◌+◌, ◌<◌, ◌≤◌, length, ◌∙◌, arith}
use Rattle.std.proofs.lemmas.Option.{slice_get-get_or}
use Rattle.std.proofs.lemmas.List.{length-set, take-set-le}
use Rattle.cc_machine_next.proofs.Storing.{never_none, stores_next, all_stored}
use Rattle.cc_machine_next.proofs.frames.store_each.Goals as goal

pub unreachable-requires : goal.unreachable-requires
unreachable-requires c =
    let inv = c.loop-i.invariant in
    let low : c.loop-i.i < length c.args.types.now = omega arith in
    never_none c.loop-i.cells.items c.args.from c.loop-i.i c.args.types.now _ c.requires.there.0 _ c.index-cell.result.now c.requires.there.1 (slice_get-get_or c.args.types.now c.loop-i.i _ low) low
    (omega (arith, inv.size, c.requires.within)) c.index-cell.ensures (inv.done c.requires.there.0 c.requires.there.1) c.in-None.ensures

pub loop-i-preserved : goal.loop-i-preserved
loop-i-preserved c =
    let xs = c.loop-i.cells.items in let inv = c.loop-i.invariant in let i = c.loop-i.i in let from = c.args.from in
    let low : i < length c.args.types.now = omega arith in
    let within : from + length c.args.types.now ≤ length xs = omega (arith, inv.size, c.requires.within) in
    let held = c.in-Some.held in
    record {
      kept = take-set-le from xs (from + i) held (omega arith) ∙ inv.kept;
      done = λ ws e. stores_next xs from i c.args.types.now _ ws _ c.index-cell.result.now e (slice_get-get_or c.args.types.now i _ low) low within c.index-cell.ensures (inv.done ws e) held c.in-Some.ensures;
      size = length-set xs (from + i) held ∙ inv.size;
    }

pub returns-clause-stored : goal.returns-clause-stored
returns-clause-stored c ws e =
    let n : c.loop-i.i ≡ length c.args.types.now = omega arith in
    c.loop-i.invariant.done ws e ∙ all_stored c.args.types.now _ ws c.loop-i.i e n
