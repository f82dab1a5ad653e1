use Rattle.std.proofs.Common.{◌≡◌, ◌∙◌, sym, ap, arith, map}
use Rattle.cc_names.specs.Parts.{added, in_order}
use Rattle.cc_names.specs.Members.{field_declares}
use Rattle.cc_names.specs.declared.scope.ItemKind.TheVariants as kind
use Rattle.cc_names.specs.Collected.{with_item}
use Rattle.cc_names.proofs.Adding.{next_part, no_more_parts, added_named}
use Rattle.cc_names.proofs.members.collect_fields.Goals as goal

pub loop-name-preserved : goal.loop-name-preserved
loop-name-preserved c =
    next_part field_declares c.args.names.now c.loop-name.name-index c.name-item.result c.args.around c.loop-name.declared _ (omega arith) c.name-item.is (c.in_ok-declare.ensures ∙ ap (λ word. with_item kind.Field word c.name-item.result.span c.args.around c.loop-name.declared) c.as_slice.ensures ∙ sym (added_named kind.Field c.name-item.result.name c.name-item.result.span c.args.around c.loop-name.declared))
    ∙ c.loop-name.invariant

pub returns : goal.returns
returns c =
    sym (no_more_parts field_declares c.args.names.now c.loop-name.name-index c.args.around c.loop-name.declared (omega arith))
    ∙ c.loop-name.invariant
