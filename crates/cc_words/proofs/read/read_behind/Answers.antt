use Rattle.std.proofs.Common.{◌≡◌, ◌∙◌, ℕ, List, map, ap, ap₂, sym, subst, string_bytes}
use Rattle.std.specs.Prelude.{Option, None}
use Rattle.std.proofs.lemmas.Result.{IfOk-weaker}
use Rattle.cc_words.specs.Words.{is_divider, line_between, line_divided}
use Rattle.cc_words.proofs.Lines.{refused_line, divided_line}
use Rattle.cc_words.proofs.Mapped.{position_map}
use Rattle.cc_words.proofs.read.read_behind.Goals as goal

pub returns-then-is_stray : goal.returns-then-is_stray
returns-then-is_stray c =
    let texts = map (λ word. string_bytes word) c.args.words.now in
    let divider = c.divider_in-divider.result in
    let divider_is = c.divider_in-divider.ensures.place ∙ sym (position_map is_divider (λ word. string_bytes word) c.args.words.now) in
    subst (λ (d : Option ℕ). None ≡ line_divided c.args.command d texts) divider_is (refused_line c.args.command divider texts (sym c.is_stray.ensures ∙ c.if-is_stray.true))

pub returns : goal.returns
returns c =
    let texts = map (λ word. string_bytes word) c.args.words.now in
    let divider = c.divider_in-divider.result in
    let divider_is = c.divider_in-divider.ensures.place ∙ sym (position_map is_divider (λ word. string_bytes word) c.args.words.now) in
    let divided = divided_line c.args.command divider texts (sym c.is_stray.ensures ∙ c.if-is_stray.false) in
    IfOk-weaker c.read_between.result _ _
    (λ request is. is
    ∙ ap₂ (λ (before behind : List (List ℕ)). line_between c.args.command before behind) c.words_before-before.ensures c.words_behind-behind.ensures
    ∙ divided ∙ ap (λ (d : Option ℕ). line_divided c.args.command d texts) divider_is)
    c.read_between.ensures
