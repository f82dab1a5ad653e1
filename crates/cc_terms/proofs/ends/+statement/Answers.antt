use Rattle.std.proofs.Common.{◌<◌, length, ap, ◌∙◌, arith}
use Rattle.cc_terms.specs.Ends.{branch_of}
use Rattle.cc_terms.proofs.Longer.{any_more, last_more}
use Rattle.cc_terms.proofs.ends.+statement.Goals as goal

pub switched-loop-section-preserved : goal.switched-loop-section-preserved
switched-loop-section-preserved t c =
    let all = c.as_slice-items.result.now in
    let at = c.loop-section.section-index in
    let one = c.section-item.result in
    let within : c.loop-section.section-index < length c.as_slice-items.result.now = omega arith in
    record {
      has_default =
          any_more branch_of all at one within c.section-item.is (λ branch. branch.has_default) c.loop-section.has_default c.section-branch.result.has_default c.or-has_default.result c.or-has_default.ensures
          (ap (λ branch. branch.has_default) c.section-branch.ensures) c.loop-section.invariant.has_default;
      breaks =
          any_more branch_of all at one within c.section-item.is (λ branch. branch.way.breaks) c.loop-section.breaks c.section-branch.result.way.breaks c.or-breaks.result c.or-breaks.ensures
          (ap (λ branch. branch.way.breaks) c.section-branch.ensures) c.loop-section.invariant.breaks;
      last = ap (λ branch. branch.way.ends) c.section-branch.ensures ∙ last_more branch_of all at one within c.section-item.is;
    }
