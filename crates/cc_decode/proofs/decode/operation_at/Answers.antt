use Rattle.std.proofs.Common.{ap, ◌∙◌, arith}
use Rattle.cc_execution.specs.Operations.{resolve}
use Rattle.cc_decode.proofs.Decoding.{ok_parts, stands_within, stands_later, next_of, goes_here}
use Rattle.cc_decode.proofs.decode.operation_at.Goals as goal

pub unreachable-requires : goal.unreachable-requires
unreachable-requires c =
    let t = c.requires.there in
    let n = next_of t.0 c.args.code.now c.args.at t.2 c.requires.within t.3 in
    c.in_default.not-Ok _ (c.decode_one.ensures.spelled n.instruction n.stands.0 n.stands.2 n.stands.1)

pub resolve-requires-clause-code : goal.resolve-requires-clause-code
resolve-requires-clause-code c =
    let found = c.in-Ok.ensures.found in
    let within = stands_within c.args.code.now c.args.at c.in-Ok.instruction (found.0, found.1, c.in-Ok.ensures.in_range) c.requires.within in
    omega (arith, within, found.2, c.requires.short)

pub unreachable-requires-in_default-resolve : goal.unreachable-requires-in_default-resolve
unreachable-requires-in_default-resolve c =
    let t = c.requires.there in
    let n = next_of t.0 c.args.code.now c.args.at t.2 c.requires.within t.3 in
    let s = ok_parts c.in-Ok.instruction n.instruction c.in-Ok.next _ c.decode_one.result c.in-Ok.is (c.decode_one.ensures.spelled n.instruction n.stands.0 n.stands.2 n.stands.1) in
    c.in_default-resolve.not-Some _ (c.resolve.ensures t.0 t.1 ∙ ap (λ i. resolve t.0 c.in-Ok.next i) s.0 ∙ ap (λ k. resolve t.0 k n.instruction) s.1 ∙ n.resolves)

pub returns-clause-within : goal.returns-clause-within
returns-clause-within c =
    let found = c.in-Ok.ensures.found in
    let within = stands_within c.args.code.now c.args.at c.in-Ok.instruction (found.0, found.1, c.in-Ok.ensures.in_range) c.requires.within in
    omega (arith, within, found.2)

pub returns-clause-later : goal.returns-clause-later
returns-clause-later c = stands_later c.args.at c.in-Ok.next c.in-Ok.instruction c.in-Ok.ensures.found.2

pub returns-clause-goes_on : goal.returns-clause-goes_on
returns-clause-goes_on c names scope operations d =
    goes_here names c.args.code.now c.args.at operations c.in-Ok.instruction c.in-Ok.next c.in-Some.operation c.requires.within
    (λ i s. ok_parts c.in-Ok.instruction i c.in-Ok.next _ c.decode_one.result c.in-Ok.is (c.decode_one.ensures.spelled i s.0 s.2 s.1)) (c.in-Some.ensures names scope) d
