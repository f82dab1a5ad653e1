use Rattle.std.proofs.Common.{◌≡◌, ℕ, List, ◌-◌, take, drop, length, length-drop, arith, ap, sym, subst, ◌∙◌}
use Rattle.std.proofs.lemmas.List.{take_all}
use Rattle.cc_listing.specs.Bodies.{GoesOn, instruction_line, bytes_line}
use Rattle.cc_listing.proofs.CodeLines.{within_code, one_instruction, last_bytes}
use Rattle.cc_listing.proofs.bodies.line_at.Goals as goal

pub returns-in_ok-line-in-Ok-clause-within : goal.returns-in_ok-line-in-Ok-clause-within
returns-in_ok-line-in-Ok-clause-within c =
    let found = c.in-Ok.ensures.found in
    let within = within_code c.in-Ok.instruction c.args.code.now found.0 c.args.at found.1 in
    omega (arith, within.1, found.2)

pub returns-in_ok-line-in-Ok-clause-lists : goal.returns-in_ok-line-in-Ok-clause-lists
returns-in_ok-line-in-Ok-clause-lists c =
    let code = c.args.code.now in
    let at = c.args.at in
    let i = c.in-Ok.instruction in
    let found = c.in-Ok.ensures.found in
    let goes = one_instruction code found.0 at i c.in-Ok.ensures.in_range found.1 in
    let there = subst (λ (past : ℕ). GoesOn code at (instruction_line at i past) past) (sym found.2) goes in
    subst (λ (line : List ℕ). GoesOn code at line c.in-Ok.past) (sym c.in_ok-line-in-Ok.ensures) there

pub returns-in_ok-line-in-Err-clause-lists : goal.returns-in_ok-line-in-Err-clause-lists
returns-in_ok-line-in-Err-clause-lists c =
    let code = c.args.code.now in
    let at = c.args.at in
    let goes = last_bytes code at c.requires.within (λ i rest range same. let spelled = c.in-Err.ensures.spelled i rest range same in cc) in
    let whole : take (length code - at) (drop at code) ≡ drop at code = take_all (length code - at) (drop at code) (omega (arith, length-drop at code)) in
    let line = c.in_ok-line-in-Err.ensures ∙ ap (bytes_line at) whole in
    subst (λ (text : List ℕ). GoesOn code at text (length code)) (sym line) goes
