use Rattle.std.proofs.Common.{◌≡◌, ◌||◌, drop}
use Rattle.std.specs.List.{list_any}
use Rattle.cc_names.specs.Duplicates as spec
use Rattle.cc_names.proofs.declarations.Declarations.is_duplicate.Given as goal

abbrev pub invariant-loop-other : goal.invariant-loop-other
invariant-loop-other l = list_any (λ other. spec.repeats l.self.scopes l.self.items l.number l.one other || spec.takes_name l.self.scopes l.self.items l.one other) (drop l.other-index l.other-items) ≡ list_any (λ other. spec.repeats l.self.scopes l.self.items l.number l.one other || spec.takes_name l.self.scopes l.self.items l.one other) l.other-items
