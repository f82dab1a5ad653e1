use Rattle.std.proofs.Common.{List, Ok, map, sym, ap, ◌∙◌}
use Rattle.cc_core.specs.declared.types.ClassInfo.{ClassInfo}
use Rattle.cc_operations.specs.declared.source.Source.{Source}
use Rattle.cc_typing.specs.Told.{told_all}
use Rattle.cc_typing_laws.specs.Finding.{finds_in}
use Rattle.cc_typing_laws.specs.Functions.{told_body, numbers_from}
use Rattle.cc_typing_laws.specs.Programs as spec
use Rattle.cc_typing.proofs.Going.{gone, gave, all_typed, bodies_refused, start_refused, made_program}
use Rattle.cc_typing.proofs.programs.parts_by.Goals as goal

pub returns-in-Err : goal.returns-in-Err
returns-in-Err c =
    let f = finds_in c.args.declarations.now.scopes c.args.declarations.now.items c.args.declarations.now.directives in
    λ choice chooses.
    bodies_refused choice spec.library_classes f c.args.declarations.now.items c.args.unit.now c.in-Err.refusal
    (gone (map told_body) _ c.in-Err.refusal _ c.in-Err.is
    (all_typed spec.library_classes f c.args.declarations.now.items c.args.unit.now c.in_ok-source.source c.as_slice-items.result.now c.as_slice-2.result.now c.as_slice.result.now (told_all c.deref-2.result.now) _
    c.in_ok-source.ensures.value c.as_slice-items.ensures
    (c.as_slice-2.ensures ∙ c.in_ok-numbers.ensures ∙ ap (numbers_from 0) c.as_slice-items.ensures)
    (c.as_slice.ensures ∙ c.in_ok-numbers.ensures ∙ ap (numbers_from 0) c.as_slice-items.ensures)
    (ap told_all c.deref-2.ensures.value ∙ c.in_ok-functions.ensures)
    c.in_ok-bodies.ensures choice chooses))

pub returns-in-Err-2 : goal.returns-in-Err-2
returns-in-Err-2 c =
    let f = finds_in c.args.declarations.now.scopes c.args.declarations.now.items c.args.declarations.now.directives in
    λ choice chooses.
    start_refused choice spec.library_classes f c.args.declarations.now.items c.args.unit.now (map told_body c.in-Ok.made) c.in-Err-2.refusal
    (gave (map told_body) _ c.in-Ok.made _ c.in-Ok.is
    (all_typed spec.library_classes f c.args.declarations.now.items c.args.unit.now c.in_ok-source.source c.as_slice-items.result.now c.as_slice-2.result.now c.as_slice.result.now (told_all c.deref-2.result.now) _
    c.in_ok-source.ensures.value c.as_slice-items.ensures
    (c.as_slice-2.ensures ∙ c.in_ok-numbers.ensures ∙ ap (numbers_from 0) c.as_slice-items.ensures)
    (c.as_slice.ensures ∙ c.in_ok-numbers.ensures ∙ ap (numbers_from 0) c.as_slice-items.ensures)
    (ap told_all c.deref-2.ensures.value ∙ c.in_ok-functions.ensures)
    c.in_ok-bodies.ensures choice chooses))
    (sym c.in-Err-2.is ∙ c.in_ok-made.ensures ∙ ap (λ all. spec.started_at c.args.unit.now.span (spec.start_from 0 all)) (ap told_all c.deref-3.ensures.value ∙ c.in_ok-functions.ensures))

pub returns : goal.returns
returns c =
    let f = finds_in c.args.declarations.now.scopes c.args.declarations.now.items c.args.declarations.now.directives in
    λ choice chooses.
    ap (λ (l : List ClassInfo). Ok (record { classes = l; bodies = map told_body c.in-Ok.made; main = c.in-Ok-2.made })) (ap (λ (x : Source). x.classes) c.in_ok-source.ensures.value)
    ∙ made_program choice spec.library_classes f c.args.declarations.now.items c.args.unit.now (map told_body c.in-Ok.made) c.in-Ok-2.made
    (gave (map told_body) _ c.in-Ok.made _ c.in-Ok.is
    (all_typed spec.library_classes f c.args.declarations.now.items c.args.unit.now c.in_ok-source.source c.as_slice-items.result.now c.as_slice-2.result.now c.as_slice.result.now (told_all c.deref-2.result.now) _
    c.in_ok-source.ensures.value c.as_slice-items.ensures
    (c.as_slice-2.ensures ∙ c.in_ok-numbers.ensures ∙ ap (numbers_from 0) c.as_slice-items.ensures)
    (c.as_slice.ensures ∙ c.in_ok-numbers.ensures ∙ ap (numbers_from 0) c.as_slice-items.ensures)
    (ap told_all c.deref-2.ensures.value ∙ c.in_ok-functions.ensures)
    c.in_ok-bodies.ensures choice chooses))
    (sym c.in-Ok-2.is ∙ c.in_ok-made.ensures ∙ ap (λ all. spec.started_at c.args.unit.now.span (spec.start_from 0 all)) (ap told_all c.deref-3.ensures.value ∙ c.in_ok-functions.ensures))
