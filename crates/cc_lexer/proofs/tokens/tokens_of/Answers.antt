use Rattle.std.proofs.Common.{arith, sym}
use Rattle.cc_lexer.proofs.Lexing.{gap_read, token_read, fault_read, ended, count_more}
use Rattle.cc_lexer.proofs.tokens.tokens_of.Goals as goal

pub pieces-preserved-in-Gap : goal.pieces-preserved-in-Gap
pieces-preserved-in-Gap c =
    (gap_read c.args.source.now _ _ _ _ _ _ _ c.pieces.invariant.0 (omega arith) (sym c.in-Gap.ensures.value) c.past-rest-in-Gap.ensures.rest, omega arith, omega arith)

pub pieces-preserved : goal.pieces-preserved
pieces-preserved c =
    (token_read c.args.source.now _ _ _ _ _ _ _ _ _ _ c.pieces.invariant.0 (omega arith) c.piece_at.ensures.value c.in-Ok.ensures.value c.span-in-Ok.ensures c.in_ok-push-in-Ok.ensures.ok c.past-rest-in-Ok.ensures.rest, omega arith, count_more _ _ _ _ _ c.pieces.invariant.2 c.in_ok-push-in-Ok.ensures.ok c.in-Ok.ensures.len.0)

pub returns-in-Err-clause-spelled : goal.returns-in-Err-clause-spelled
returns-in-Err-clause-spelled c =
    fault_read c.args.source.now _ _ _ _ _ _ _ c.pieces.invariant.0 (omega arith) c.piece_at.ensures.value c.in-Err.ensures.value c.moved.ensures (omega arith)

pub returns-clause-spelled : goal.returns-clause-spelled
returns-clause-spelled c = ended c.args.source.now _ _ _ _ c.pieces.invariant.0 (omega arith) (omega arith)
