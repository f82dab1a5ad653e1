use Rattle.std.proofs.Common.{◌≡◌, ◌+◌, suc, map, ap, ◌∙◌, arith}
use Rattle.cc_core.specs.Bare.{step_of}
use Rattle.cc_dispose.specs.Lower.{lowered, lowered_section}
use Rattle.cc_dispose.proofs.Regions.{block_lowered, switch_lowered}
use Rattle.cc_dispose.proofs.statements.+statement.Goals as goal

pub lower_statement-returns-in_ok-regions-in-Block : goal.lower_statement-returns-in_ok-regions-in-Block
lower_statement-returns-in_ok-regions-in-Block t c =
    let inner = c.args.inner in
    block_lowered inner c.args.statement.now c.in-Block.statements c.in_ok-regions-in-Block.regions c.in-Block.is
    (c.in_ok-regions-in-Block.ensures ∙ ap (map (λ a. lowered inner (step_of a))) c.as_slice.ensures)

pub lower_statement-returns-in_ok-copied-in-Switch : goal.lower_statement-returns-in_ok-copied-in-Switch
lower_statement-returns-in_ok-copied-in-Switch t c =
    let a = c.in-Switch in
    let more = c.in_ok-inner-in-Switch.inner in
    switch_lowered c.args.inner more c.args.statement.now a.local a.e c.in_ok-copied-in-Switch.field-0 a.sections c.in_ok-sections-in-Switch.sections a.is
    (omega (arith, c.in_ok-inner-in-Switch.ensures)) c.in_ok-copied-in-Switch.ensures
    (c.in_ok-sections-in-Switch.ensures ∙ ap (map (lowered_section more)) c.as_slice-in-Switch.ensures)
