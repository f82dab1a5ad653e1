use Rattle.cc_tables.specs.Reading.{heap_lengths}
use Rattle.cc_tables.proofs.Checking.{place_within, rows_room, rows_wrong, rows_right, both_ok}
use Rattle.cc_tables.proofs.read.read_content.Goals as goal

pub split_at-requires : goal.split_at-requires
split_at-requires c =
    place_within c.args.lengths c.args.bytes.now c.args.counts.now.counts.items c.requires.counts c.requires.formed c.piece-3.result.now c.piece-3.ensures c.rows_place.result (c.rows_place.ensures.place (heap_lengths c.args.lengths))

pub read_rows-requires : goal.read_rows-requires
read_rows-requires c =
    rows_room c.args.lengths c.args.bytes.now c.args.counts.now.counts.items c.requires.counts c.requires.formed c.piece-3.result.now c.piece-3.ensures c.rows_place.result (c.rows_place.ensures.place (heap_lengths c.args.lengths))
    c.split_at.result.1.now c.split_at.ensures.back

pub returns-clause-rows : goal.returns-clause-rows
returns-clause-rows c =
    both_ok c.read_rows.result _ _ _ c.read_rows.ensures.rows c.read_rows.ensures.counts
    (λ r f n.
    rows_right c.args.lengths c.args.bytes.now c.args.counts.now.counts.items c.requires.counts c.requires.formed c.piece-3.result.now c.piece-3.ensures c.rows_place.result (c.rows_place.ensures.place (heap_lengths c.args.lengths))
    c.split_at.result.1.now c.split_at.ensures.back c.piece.result.now c.piece-2.result.now c.piece.ensures c.piece-2.ensures r.content f n)

pub returns-clause-fault : goal.returns-clause-fault
returns-clause-fault c =
    λ fault e n.
    rows_wrong c.args.lengths c.args.bytes.now c.args.counts.now.counts.items c.requires.counts c.requires.formed c.piece-3.result.now c.piece-3.ensures c.rows_place.result (c.rows_place.ensures.place (heap_lengths c.args.lengths))
    c.split_at.result.1.now c.split_at.ensures.back c.piece.result.now c.piece-2.result.now c.piece.ensures c.piece-2.ensures fault (c.read_rows.ensures.fault fault e n)
