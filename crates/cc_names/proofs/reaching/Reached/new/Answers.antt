use Rattle.std.proofs.Common.{◌≡◌, ◌+◌, ◌∙◌, ap, List, ℕ, length}
use Rattle.cc_names.specs.Reaching.{unused}
use Rattle.cc_names.proofs.Marking.{none_marked, all_free}
use Rattle.cc_names.proofs.reaching.Reached.new.Goals as goal

pub invariant_of-result : goal.invariant_of-result
invariant_of-result c =
    let used = c.in_ok-none_used.field-0.items in
    record {
      marks = λ pair e. none_marked used c.new.result.items c.args.count pair c.in_ok-none_used.ensures.length c.in_ok-none_used.ensures.unused e;
      total = ap (λ (l : List ℕ). length l + unused used) c.new.ensures.items ∙ all_free used c.args.count c.in_ok-none_used.ensures.length c.in_ok-none_used.ensures.unused;
    }
