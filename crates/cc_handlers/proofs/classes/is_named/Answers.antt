use Rattle.std.proofs.Common.{◌≡◌, length, drop, ap, sym, ◌∙◌, arith}
use Rattle.std.proofs.lemmas.Option.{slice_get-get_or}
use Rattle.cc_execution.specs.Handlers.{names}
use Rattle.cc_handlers.proofs.Classing.{names_found, names_next, names_none}
use Rattle.cc_handlers.proofs.classes.is_named.Goals as goal

pub returns-then-t-token : goal.returns-then-t-token
returns-then-t-token c =
    let tokens = c.args.tokens.now in let i = c.loop-t.t-index in
    sym (c.loop-t.invariant ∙ names_found tokens i _ c.args.token (slice_get-get_or tokens i 0 (omega arith)) c.if-t-token.true)

pub loop-t-preserved : goal.loop-t-preserved
loop-t-preserved c =
    let tokens = c.args.tokens.now in let i = c.loop-t.t-index in
    c.loop-t.invariant ∙ names_next tokens i _ c.args.token (slice_get-get_or tokens i 0 (omega arith)) c.if-t-token.false

pub returns : goal.returns
returns c =
    let tokens = c.args.tokens.now in
    let all : c.loop-t.t-index ≡ length tokens = omega arith in
    sym (c.loop-t.invariant ∙ ap (λ k. names (drop k tokens) c.args.token) all ∙ names_none tokens c.args.token)
