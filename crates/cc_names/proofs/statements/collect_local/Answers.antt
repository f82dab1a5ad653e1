use Rattle.std.proofs.Common.{◌≡◌, ◌∙◌, sym, ap, arith, map}
use Rattle.cc_names.specs.Parts.{added, in_order}
use Rattle.cc_names.specs.Statements.{variable}
use Rattle.cc_names.proofs.Adding.{next_part, no_more_parts, added_named}
use Rattle.cc_names.proofs.statements.collect_local.Goals as goal

pub loop-declarator-preserved : goal.loop-declarator-preserved
loop-declarator-preserved c =
    next_part (λ one. variable one.name) c.as_slice-declarator-items.result.now c.loop-declarator.declarator-index c.declarator-item.result c.args.around c.loop-declarator.declared _ (omega arith) c.declarator-item.is
    (c.in_ok-declare_variable.ensures ∙ sym (added_named _ _ _ _ _))
    ∙ c.loop-declarator.invariant

pub returns : goal.returns
returns c =
    sym (no_more_parts (λ one. variable one.name) c.as_slice-declarator-items.result.now c.loop-declarator.declarator-index c.args.around c.loop-declarator.declared (omega arith))
    ∙ c.loop-declarator.invariant ∙ ap (λ all. added (in_order (map (λ one. variable one.name) all)) c.args.around c.args.declared.now) c.as_slice-declarator-items.ensures
