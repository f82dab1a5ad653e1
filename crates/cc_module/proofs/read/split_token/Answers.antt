use Rattle.std.proofs.Common.{refl, rules, ◌≡◌, ◌%◌}
use Rattle.cc_module.proofs.Elements.{token_bad, token_tag}
use Rattle.cc_module.proofs.read.split_token.Goals as goal

pub returns-in-Err-clause-err : goal.returns-in-Err-clause-err
returns-in-Err-clause-err c = token_bad _ _ c.in-Err.ensures.err

pub returns-in_default-clause-err : goal.returns-in_default-clause-err
returns-in_default-clause-err c =
    let tag : c.in-Ok.split.0 % 4 ≡ 3 = search rules in
    token_tag _ _ c.in-Ok.split.0 _ c.in-Ok.ensures.ok.0 c.in-Ok.ensures.ok.1 tag refl
