use Rattle.std.proofs.Common.{◌+◌, drop, sym, ap, ◌∙◌, arith}
use Rattle.std.proofs.lemmas.Option.{slice_get-get_or}
use Rattle.cc_handlers.specs.Ways.{by_turn, way_out}
use Rattle.cc_handlers.proofs.Walking.{after, after_stop, after_into, way_none, way_more, way_all}
use Rattle.cc_handlers.proofs.ways.way_out.Goals as goal

pub loop-clause-init : goal.loop-clause-init
loop-clause-init c = record { few = omega arith; so_far = way_none c.args.classes.now c.args.departure c.args.at c.args.clauses.now }

pub returns-in-Stop : goal.returns-in-Stop
returns-in-Stop c =
    let cs = c.args.classes.now in let d = c.args.departure in let at = c.args.at in let clauses = c.args.clauses.now in let i = c.loop-clause.clause-index in let n = c.loop-clause.left in
    let more = way_more cs d at clauses i n _ c.turn_at.result (slice_get-get_or clauses i _ (omega arith)) c.turn_at.ensures c.loop-clause.invariant.so_far in
    sym (more ∙ ap (λ t. after n (by_turn t (way_out cs d at (drop (i + 1) clauses)))) c.in-Stop.is ∙ after_stop n (way_out cs d at (drop (i + 1) clauses)))

pub returns-in-Into : goal.returns-in-Into
returns-in-Into c =
    let cs = c.args.classes.now in let d = c.args.departure in let at = c.args.at in let clauses = c.args.clauses.now in let i = c.loop-clause.clause-index in let n = c.loop-clause.left in
    let more = way_more cs d at clauses i n _ c.turn_at.result (slice_get-get_or clauses i _ (omega arith)) c.turn_at.ensures c.loop-clause.invariant.so_far in
    sym (more ∙ ap (λ t. after n (by_turn t (way_out cs d at (drop (i + 1) clauses)))) c.in-Into.is ∙ after_into n c.in-Into.entrance (way_out cs d at (drop (i + 1) clauses)))

pub returns : goal.returns
returns c =
    let cs = c.args.classes.now in let d = c.args.departure in let at = c.args.at in let clauses = c.args.clauses.now in
    sym (way_all cs d at clauses c.loop-clause.clause-index c.loop-clause.left (omega arith) c.loop-clause.invariant.so_far)
