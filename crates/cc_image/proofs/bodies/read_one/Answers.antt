use Rattle.std.proofs.Common.{rules, ◌≡◌, ◌+◌, ◌∙◌, sym, ap, length, drop, refl, arith}
use Rattle.std.proofs.lemmas.List.{length-append, length-drop}
use Rattle.cc_layout.proofs.Numbers.{AreBytes-each}
use Rattle.cc_cil.specs.Bodies.{body_bytes}
use Rattle.cc_image.proofs.Contents.{told_at}
use Rattle.cc_image.proofs.Loops.{code_there, body_there, body_fine, read_fault}
use Rattle.cc_image.proofs.bodies.read_one.Goals as goal

pub returns-in-Ok-clause-values : goal.returns-in-Ok-clause-values
returns-in-Ok-clause-values c =
    let bytes = c.args.bytes.now in
    let found = c.in-Ok.ensures.found in
    let tells = told_at c.in-Ok.body c.args.at bytes found.1 (AreBytes-each bytes (λ i. omega (arith, c.type_inv.bytes i))) (omega (arith, c.requires.room)) found.0 c.read_numbers.ensures found.2 in
    (sym tells.body, found.3 ∙ sym tells.past)

pub returns-in-Ok-clause-within : goal.returns-in-Ok-clause-within
returns-in-Ok-clause-within c =
    let found = c.in-Ok.ensures.found in
    omega (arith, found.3, ap length found.2, length-append (body_bytes c.in-Ok.body) found.1, length-drop c.args.at c.args.bytes.now, c.requires.within)

pub returns-in-Ok-clause-found : goal.returns-in-Ok-clause-found
returns-in-Ok-clause-found c =
    let bytes = c.args.bytes.now in
    let found = c.in-Ok.ensures.found in
    let tells = told_at c.in-Ok.body c.args.at bytes found.1 (AreBytes-each bytes (λ i. omega (arith, c.type_inv.bytes i))) (omega (arith, c.requires.room)) found.0 c.read_numbers.ensures found.2 in
    body_fine c.args.row c.args.rva c.args.at bytes (omega (arith, c.if-rva-at.false)) tells.fine

pub returns-in-Err-clause-fault : goal.returns-in-Err-clause-fault
returns-in-Err-clause-fault c f e n =
    let bytes = c.args.bytes.now in
    let same : c.code_error.result ≡ f = cc in
    let there = code_there c.args.row c.in-Err.fault f (sym c.code_error.ensures ∙ same) n in
    let told = read_fault c.args.at bytes c.in-Err.fault c.requires.within (c.in-Err.ensures.fault c.in-Err.fault refl there.1) in
    body_there c.args.row c.args.rva c.args.at bytes c.in-Err.fault f (omega (arith, c.if-rva-at.false)) told there.0
