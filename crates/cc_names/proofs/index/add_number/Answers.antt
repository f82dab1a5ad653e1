use Rattle.std.proofs.Common.{◌≡◌, ◌∙◌, ap, ◌++◌, ◌∷◌, []}
use Rattle.cc_names.specs.Index.{numbers_or_none}
use Rattle.cc_names.proofs.Indexed.{added_number}
use Rattle.cc_names.proofs.index.add_number.Goals as goal

pub returns-in-Ok : goal.returns-in-Ok
returns-in-Ok c =
    added_number c.args.name.now c.in_ok-key.key c.args.number c.push.new.self c.args.numbers.now c.remove.new.self c.insert.new.self c.in_ok-key.ensures.items
    (c.in_ok-push.ensures.ok ∙ ap (λ l. l ++ c.args.number ∷ []) (c.list_or_empty-list.ensures ∙ ap numbers_or_none c.remove.ensures.value))
    c.remove.ensures.updates c.in-Ok.ensures.updates
