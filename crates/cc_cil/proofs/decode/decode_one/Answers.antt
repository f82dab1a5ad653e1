use Rattle.std.proofs.Common.{◌≡◌, ℕ, ◌+◌, ◌++◌, drop, length, refl, inl, ◌∙◌, sym, ap, arith}
use Rattle.cc_cil.specs.Instructions.{spelling, opcode_bytes}
use Rattle.cc_layout.specs.Numbers.{AreBytes}
use Rattle.cc_layout.proofs.Numbers.{AreBytes-each}
use Rattle.cc_cil.proofs.Spelling.{front_of_code, front_of_operand, whole, place_after}
use Rattle.std.proofs.lemmas.List.{get_or-drop}
use Rattle.std.proofs.Math.ListN.{drop_of_length-le}
use Rattle.cc_cil.proofs.Unique.{front_not_whole, spelling_one}
use Rattle.cc_cil.specs.declared.instruction.Instruction.{Instruction}
use Rattle.cc_cil.proofs.decode.decode_one.Goals as goal

pub returns-then-at-past-clause-short : goal.returns-then-at-past-clause-short
returns-then-at-past-clause-short c n e = (cc, front_of_code _ (inl (drop_of_length-le c.args.code.now (omega (arith, c.if-at-past.true)))))

pub returns-in_default-clause-short : goal.returns-in_default-clause-short
returns-in_default-clause-short c n e = (cc, rw (← c.split_at.ensures.back) (front_of_code _ c.in_default.ensures.none))

pub returns-in_default-split_operand-clause-short : goal.returns-in_default-split_operand-clause-short
returns-in_default-split_operand-clause-short c n e =
    let fits : AreBytes (drop c.args.at c.args.code.now) = AreBytes-each _ (λ i. rw get_or-drop (omega (arith, c.type_inv.code (c.args.at + i)))) in
    let text : drop c.args.at c.args.code.now ≡ opcode_bytes c.in-Some.opcode ++ c.in-Some.rest.now = rw (← c.split_at.ensures.back) c.in-Some.ensures.found in
    (cc, front_of_operand _ c.in-Some.rest.now c.in-Some-with_opcode.blank fits (text ∙ ap (λ (x : ℕ). opcode_bytes x ++ c.in-Some.rest.now) (sym c.in-Some-with_opcode.ensures.found)) c.in_default-split_operand.ensures.none)

pub returns-clause-found : goal.returns-clause-found
returns-clause-found c =
    let front : drop c.args.at c.args.code.now ≡ opcode_bytes c.in-Some.opcode ++ c.in-Some.rest.now = rw (← c.split_at.ensures.back) c.in-Some.ensures.found in
    let text : drop c.args.at c.args.code.now ≡ spelling c.in-Some-split_operand.instruction ++ c.in-Some-split_operand.rest.now = whole _ c.in-Some.rest.now _ c.in-Some-split_operand.instruction c.in-Some.opcode front (c.in-Some-split_operand.ensures.found.0 ∙ c.in-Some-with_opcode.ensures.found) c.in-Some-split_operand.ensures.found.1 in
    (c.in-Some-split_operand.rest.now, text, place_after _ _ _ _ (omega (arith, c.if-at-past.false)) text)

pub returns-then-at-past-clause-spelled : goal.returns-then-at-past-clause-spelled
returns-then-at-past-clause-spelled c i rest h e = absurd (front_not_whole _ rest i (front_of_code _ (inl (drop_of_length-le c.args.code.now (omega (arith, c.if-at-past.true))))) e)

pub returns-in_default-clause-spelled : goal.returns-in_default-clause-spelled
returns-in_default-clause-spelled c i rest h e = absurd (front_not_whole _ rest i (rw (← c.split_at.ensures.back) (front_of_code _ c.in_default.ensures.none)) e)

pub returns-in_default-split_operand-clause-spelled : goal.returns-in_default-split_operand-clause-spelled
returns-in_default-split_operand-clause-spelled c i rest h e = absurd (front_not_whole _ rest i (returns-in_default-split_operand-clause-short c (length c.args.code.now) refl).1 e)

pub returns-clause-spelled : goal.returns-clause-spelled
returns-clause-spelled c i rest h e =
    let found = returns-clause-found c in
    let same = spelling_one c.in-Some-split_operand.instruction i found.0 rest c.in-Some-split_operand.ensures.in_range h (sym found.1 ∙ e) in
    let place = found.2 ∙ ap (λ (j : Instruction). c.args.at + length (spelling j)) same.0 in
    cc
