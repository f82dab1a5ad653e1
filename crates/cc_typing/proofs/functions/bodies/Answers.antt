use Rattle.std.proofs.Common.{◌∷◌, [], ◌+◌, map, drop, slice_get, ap, ◌∙◌, arith}
use Rattle.std.proofs.lemmas.List.{map-append}
use Rattle.cc_typing.specs.Told.{told, told_all}
use Rattle.cc_typing_laws.specs.Functions as spec
use Rattle.cc_typing.proofs.Going.{refused_at, typed_on, gone, gave}
use Rattle.cc_typing.proofs.functions.bodies.Goals as goal

pub returns-in-Err : goal.returns-in-Err
returns-in-Err g c =
    let f = g.F.Finder.finds c.args.finder.now in
    λ choice chooses.
    refused_at choice f c.args.source.now c.args.items.now c.args.numbers.now c.args.functions.now c.loop-at.at c.index-functions-at.result (map spec.told_body c.loop-at.done) c.in-Err.refusal (omega arith) c.index-functions-at.is
    (gone spec.told_body _ c.in-Err.refusal _ c.in-Err.is (c.in_ok-made.ensures choice chooses)
    ∙ ap (λ n. spec.function_typed choice f c.args.source.now (told c.index-functions-at.result) n c.scope_of-scope.result) c.in_ok-number.ensures.value
    ∙ ap (λ s. spec.function_typed choice f c.args.source.now (told c.index-functions-at.result) c.loop-at.at s) (c.scope_of-scope.ensures ∙ ap (λ n. spec.scope_of (slice_get c.args.items.now n)) c.number_at.ensures))
    ∙ c.loop-at.invariant choice chooses

pub loop-at-preserved : goal.loop-at-preserved
loop-at-preserved g c =
    let f = g.F.Finder.finds c.args.finder.now in
    λ choice chooses.
    ap (λ l. spec.bodies_from choice f c.args.source.now c.args.items.now c.args.numbers.now (c.loop-at.at + 1) (told_all (drop (c.loop-at.at + 1) c.args.functions.now)) l)
    (ap (map spec.told_body) c.in_ok-push.ensures.ok ∙ map-append spec.told_body c.loop-at.done (c.in-Ok.made ∷ []))
    ∙ typed_on choice f c.args.source.now c.args.items.now c.args.numbers.now c.args.functions.now c.loop-at.at c.index-functions-at.result (map spec.told_body c.loop-at.done) (spec.told_body c.in-Ok.made) (omega arith) c.index-functions-at.is
    (gave spec.told_body _ c.in-Ok.made _ c.in-Ok.is (c.in_ok-made.ensures choice chooses)
    ∙ ap (λ n. spec.function_typed choice f c.args.source.now (told c.index-functions-at.result) n c.scope_of-scope.result) c.in_ok-number.ensures.value
    ∙ ap (λ s. spec.function_typed choice f c.args.source.now (told c.index-functions-at.result) c.loop-at.at s) (c.scope_of-scope.ensures ∙ ap (λ n. spec.scope_of (slice_get c.args.items.now n)) c.number_at.ensures))
    ∙ c.loop-at.invariant choice chooses
