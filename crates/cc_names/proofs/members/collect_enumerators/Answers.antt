use Rattle.std.proofs.Common.{◌≡◌, ◌∙◌, sym, ap, arith, map}
use Rattle.cc_names.specs.Parts.{added, in_order}
use Rattle.cc_names.specs.Members.{enumerator_declares}
use Rattle.cc_names.specs.declared.scope.ItemKind.TheVariants as kind
use Rattle.cc_names.specs.Collected.{with_item}
use Rattle.cc_names.proofs.Adding.{next_part, no_more_parts, added_named}
use Rattle.cc_names.proofs.members.collect_enumerators.Goals as goal

pub loop-one-preserved : goal.loop-one-preserved
loop-one-preserved c =
    next_part enumerator_declares c.args.items.now c.loop-one.one-index c.one-item.result c.args.around c.loop-one.declared _ (omega arith) c.one-item.is (c.in_ok-declare.ensures ∙ ap (λ word. with_item kind.Enumerator word c.one-item.result.name.span c.args.around c.loop-one.declared) c.as_slice.ensures ∙ sym (added_named kind.Enumerator c.one-item.result.name.name c.one-item.result.name.span c.args.around c.loop-one.declared))
    ∙ c.loop-one.invariant

pub returns : goal.returns
returns c =
    sym (no_more_parts enumerator_declares c.args.items.now c.loop-one.one-index c.args.around c.loop-one.declared (omega arith))
    ∙ c.loop-one.invariant
