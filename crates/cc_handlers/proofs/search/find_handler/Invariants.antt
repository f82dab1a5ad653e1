use Rattle.std.proofs.Common.{◌≡◌, drop}
use Rattle.cc_execution.specs.Handlers.{derives}
use Rattle.cc_handlers.specs.Search.{catch_from}
use Rattle.cc_handlers.proofs.search.find_handler.Given as goal

abbrev pub invariant-loop-place : goal.invariant-loop-place
invariant-loop-place l =
    catch_from (λ token. derives l.classes l.thrown token) l.at 0 l.clauses ≡ catch_from (λ token. derives l.classes l.thrown token) l.at l.place (drop l.place l.clauses)
