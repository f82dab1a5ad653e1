use Rattle.std.proofs.Common.{rules, ◌≡◌, ◌++◌, ◌∙◌, ap, take, List, ℕ}
use Rattle.cc_layout.specs.Numbers.{little_endian}
use Rattle.cc_layout.proofs.Numbers.{little_endian-take}
use Rattle.cc_layout.proofs.write.write_number.Goals as goal

pub returns-clause-ok : goal.returns-clause-ok
returns-clause-ok c =
    let all : c.write_u64.new.buf ≡ little_endian 8 c.args.value = search rules in
    c.in_ok-extend_from_slice.ensures.items ∙ ap (λ (x : List ℕ). c.args.into.now.items ++ x) (c.split_at.ensures.front ∙ ap (take c.args.width) all ∙ little_endian-take c.args.width 8 c.args.value c.requires)
