use Rattle.std.proofs.Common.{arith, sym}
use Rattle.cc_lexer.proofs.Decoding.{unit_read, pair_read, ended, bad_byte_read, bad_escape_read}
use Rattle.cc_lexer.proofs.quotes.decode.Goals as goal

pub returns-in-BadByte-clause-value : goal.returns-in-BadByte-clause-value
returns-in-BadByte-clause-value c = rw c.span.ensures (bad_byte_read _ _ _ _ c.elements.invariant.0 (omega arith) (sym c.in-BadByte.ensures.value))

pub returns-in-BadEscape-clause-value : goal.returns-in-BadEscape-clause-value
returns-in-BadEscape-clause-value c = rw c.span-in-BadEscape.ensures (bad_escape_read _ _ _ _ _ c.elements.invariant.0 (omega arith) (sym c.in-BadEscape.ensures.value))

pub elements-preserved-in-One : goal.elements-preserved-in-One
elements-preserved-in-One c =
    (unit_read _ _ _ _ _ _ _ _ c.elements.invariant.0 (omega arith) (sym c.in-One.ensures.value) c.in_ok-push-in-One.ensures.ok c.past-rest.ensures.rest, omega arith)

pub elements-preserved : goal.elements-preserved
elements-preserved c =
    (pair_read _ _ _ _ _ _ _ _ _ c.elements.invariant.0 (omega arith) (sym c.in-Pair.ensures.value) c.in_ok-push_pair-in-Pair.ensures.ok c.past-rest-in-Pair.ensures.rest, omega arith)

pub returns-clause-value : goal.returns-clause-value
returns-clause-value c = ended _ _ _ _ c.elements.invariant.0 (omega arith)
