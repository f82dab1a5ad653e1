use Rattle.std.proofs.Common.{◌∙◌, arith}
use Rattle.cc_tables.proofs.Entries.{stands_one}
use Rattle.cc_tables.proofs.heap_text.text_at.Goals as goal

pub returns-in_ok-text-in-Some-clause-only : goal.returns-in_ok-text-in-Some-clause-only
returns-in_ok-text-in-Some-clause-only c =
    λ other h. c.in_ok-text-in-Some.ensures
    ∙ stands_one c.args.kind c.args.stream.now c.args.place c.split_at.result.1.now c.in-Some.text.now c.in-Some.field-0-1.now c.split_at.ensures.back (omega (arith, c.if-place-eq0.false)) c.in-Some.ensures.some.0 c.in-Some.ensures.some.1 other h
