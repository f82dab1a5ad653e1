use Rattle.std.proofs.Common.{◌≡◌, drop}
use Rattle.std.specs.Prelude.{find, ◌&&◌}
use Rattle.cc_names.specs.Lookup as spec
use Rattle.cc_names.proofs.declarations.Declarations.first_unhidden.Given as goal

abbrev pub invariant-loop-number : goal.invariant-loop-number
invariant-loop-number l = find (λ number. spec.is_function_number l.self.scopes l.self.items number && spec.is_unhidden l.self.scopes l.self.items l.numbers (spec.chain l.self.scopes l.self.items l.class) number) (drop l.number-index l.numbers) ≡ find (λ number. spec.is_function_number l.self.scopes l.self.items number && spec.is_unhidden l.self.scopes l.self.items l.numbers (spec.chain l.self.scopes l.self.items l.class) number) l.numbers
