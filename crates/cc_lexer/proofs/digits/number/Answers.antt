use Rattle.std.proofs.Common.{arith, sym}
use Rattle.cc_lexer.proofs.LargeNumbers.{too_large}
use Rattle.cc_lexer.proofs.digits.number.Goals as goal

pub returns-in_default : goal.returns-in_default
returns-in_default c = sym (too_large _ c.digits.value c.digits.b-index _ c.requires c.digits-test.true (omega (arith, c.in_default.ensures)) c.digits.invariant.1)

pub returns-in_default-checked_add : goal.returns-in_default-checked_add
returns-in_default-checked_add c = sym (too_large _ c.digits.value c.digits.b-index _ c.requires c.digits-test.true (omega (arith, c.in-Some.ensures, c.in_default-checked_add.ensures)) c.digits.invariant.1)
