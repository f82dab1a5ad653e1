use Rattle.std.proofs.Common.{◌≡◌, List, ℕ, [], ◌++◌, sym, subst, arith, ◌∙◌}
use Rattle.std.proofs.lemmas.Grind.{common_steps}
use Rattle.cc_library.specs.Texts.{Decodes, nothing}
use Rattle.cc_library.proofs.Decoding.{text_is}
use Rattle.cc_library.proofs.lines.decoded.Goals as goal

pub returns : goal.returns
returns c =
    let bytes = c.args.bytes.now in
    let units = c.loop-rest.units.items in
    let rest : c.loop-rest.rest.now ≡ [] = grind (arith, common_steps) in
    let all = c.loop-rest.invariant [] (subst (λ (l : List ℕ). Decodes l []) (sym rest) nothing) in
    let same : units ++ [] ≡ units = grind (arith, common_steps) in
    c.from_vec.ensures ∙ sym same ∙ sym (text_is bytes (units ++ []) all)
