use Rattle.std.proofs.Common.{◌≡◌, drop, map}
use Rattle.std.specs.List.{enumerate_from}
use Rattle.cc_names.specs.declared.scope.Item.{Item}
use Rattle.cc_names.specs.declared.scope.Scope.{Scope}
use Rattle.cc_names.specs.declared.refusal.NameKind.TheVariants as refused
use Rattle.cc_names.specs.Checks.{Checks, run, joined, refused_if}
use Rattle.cc_names.specs.Duplicates as spec
use Rattle.cc_names.proofs.declarations.Declarations.duplicates.Given as goal

abbrev pub invariant-loop-number : goal.invariant-loop-number
invariant-loop-number l = run (joined (map (λ one. refused_if (spec.is_duplicate l.self.scopes l.self.items one.0 one.1) refused.Duplicate one.1.span) (enumerate_from l.number (drop l.number l.self.items)))) l.first ≡ run (spec.duplicate_checks l.self.scopes l.self.items) l.initial.first
