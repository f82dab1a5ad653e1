use Rattle.std.proofs.Common.{◌≡◌, ◌∙◌, sym, subst, ap, List, ℕ}
use Rattle.std.proofs.lemmas.Result.{IfOk-weaker}
use Rattle.cc_cil.specs.declared.body.Body.{Body}
use Rattle.cc_module.specs.declared.module.Module.{Module}
use Rattle.cc_image.specs.Images.{IsImage, image_bytes}
use Rattle.cc_image.proofs.Sections.{written_image}
use Rattle.cc_emit.specs.Program.{module_of}
use Rattle.cppcli.proofs.steps.image_of.Goals as goal

pub returns : goal.returns
returns c =
    let m = c.in_ok-module.«module» in
    let code_is : c.as_slice.result.now ≡ c.args.code.now.code = c.as_slice.ensures ∙ ap (λ (b : Body). b.code) c.body.ensures.same in
    let module_is = c.in_ok-module.ensures.exact ∙ ap module_of code_is in
    let own = written_image m c.in_ok-module.ensures.storable c.in_ok-module.ensures.in_range.entry in
    IfOk-weaker c.write_image.result _ _
    (λ image is. subst (λ (b : List ℕ). IsImage (module_of c.args.code.now.code) b) (sym is) (subst (λ (n : Module). IsImage n (image_bytes m)) module_is own))
    c.write_image.ensures
