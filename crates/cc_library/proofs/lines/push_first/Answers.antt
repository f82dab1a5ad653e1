use Rattle.std.proofs.Common.{ℕ, [], ◌∷◌, drop, arith, sym, subst, ◌∙◌}
use Rattle.std.specs.Char.Escape.{encode_utf16}
use Rattle.bstr.proofs.lemmas.PieceLemmas.{piece-bounds}
use Rattle.cc_library.specs.Texts.{Decodes}
use Rattle.cc_library.proofs.Decoding.{one_character, one_replaced}
use Rattle.cc_library.proofs.lines.push_first.Goals as goal

pub returns-in_ok-push_character-in-Some-default-clause-some : goal.returns-in_ok-push_character-in-Some-default-clause-some
returns-in_ok-push_character-in-Some-default-clause-some c =
    let bounds = piece-bounds c.args.bytes.now c.requires in
    omega (arith, bounds.0, c.decode.ensures.size)

pub returns-in_ok-push_character-in-Some-default-clause-within : goal.returns-in_ok-push_character-in-Some-default-clause-within
returns-in_ok-push_character-in-Some-default-clause-within c =
    let bounds = piece-bounds c.args.bytes.now c.requires in
    omega (arith, bounds.2, c.decode.ensures.size)

pub returns-in_ok-push_character-in-Some-default-clause-decodes : goal.returns-in_ok-push_character-in-Some-default-clause-decodes
returns-in_ok-push_character-in-Some-default-clause-decodes c =
    let bytes = c.args.bytes.now in
    let character = c.in-Some-default.character in
    let found = sym c.decode.ensures.char ∙ c.in-Some-default.is-0 in (
      encode_utf16 character,
      c.in_ok-push_character-in-Some-default.ensures,
      λ more rest.
          one_character bytes more character found (subst (λ (n : ℕ). Decodes (drop n bytes) more) c.decode.ensures.size rest),
    )

pub returns-in_ok-push-in-None-default-clause-decodes : goal.returns-in_ok-push-in-None-default-clause-decodes
returns-in_ok-push-in-None-default-clause-decodes c =
    let none = sym c.decode.ensures.char ∙ c.in-None-default.is-0 in
    (0xFFFD ∷ [], c.in_ok-push-in-None-default.ensures.items, λ more rest. one_replaced c.args.bytes.now more c.requires none rest)
