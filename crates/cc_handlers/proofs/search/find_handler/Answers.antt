use Rattle.std.proofs.Common.{ℕ, sym, arith}
use Rattle.std.proofs.lemmas.Option.{slice_get-get_or}
use Rattle.cc_execution.specs.Handlers.{derives}
use Rattle.cc_handlers.proofs.Walking.{catch_found, catch_more, catch_all}
use Rattle.cc_handlers.proofs.search.find_handler.Goals as goal

pub returns-then-takes : goal.returns-then-takes
returns-then-takes c =
    let clauses = c.args.clauses.now in let at = c.args.at in let i = c.loop-place.place in
    let m = λ (token : ℕ). derives c.args.classes.now c.args.thrown token in
    sym (catch_found m at clauses i _ (slice_get-get_or clauses i _ (omega arith)) c.takes.result c.takes.ensures c.if-takes.true c.loop-place.invariant)

pub loop-place-preserved : goal.loop-place-preserved
loop-place-preserved c =
    let clauses = c.args.clauses.now in let at = c.args.at in let i = c.loop-place.place in
    let m = λ (token : ℕ). derives c.args.classes.now c.args.thrown token in
    catch_more m at clauses i _ (slice_get-get_or clauses i _ (omega arith)) c.takes.result c.takes.ensures c.if-takes.false c.loop-place.invariant

pub returns : goal.returns
returns c =
    let clauses = c.args.clauses.now in
    let m = λ (token : ℕ). derives c.args.classes.now c.args.thrown token in
    sym (catch_all m c.args.at clauses c.loop-place.place (omega arith) c.loop-place.invariant)
